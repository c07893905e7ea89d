use Rattle.std.proofs.Common.{◌≡◌, ℕ, ◌<◌, ◌↔◌, true, false, subst, List, Bool, refl}
use lib.Dec.{leb}
use Rattle.lapi_collect.specs.Outstanding.{is_open, IsOutstanding}
use Rattle.lapi_collect.proofs.Open.{clear_where_least, clear_where_none}
use Rattle.lapi_collect.proofs.outstanding.Outstanding.clear_before.Goals as goal

pub returns-in-Some : goal.returns-in-Some
returns-in-Some c =
    let s = c.args.statement in
    let least = c.in-Some.least in
    let kept = subst (λ o. IsOutstanding c.self.inside.statements c.self.inside.words.items c.self.inside.used o) c.in-Some.is c.self.invariant in
    let answer = clear_where_least c.self.inside.statements c.self.inside.used s least c.self.inside.words.items kept in
    subst (λ (flags : List Bool). (leb s least ≡ true) ↔ ((n : ℕ) → n < s → is_open flags n ≡ false)) c.self.view_is answer

pub returns-in-None : goal.returns-in-None
returns-in-None c =
    let kept = subst (λ o. IsOutstanding c.self.inside.statements c.self.inside.words.items c.self.inside.used o) c.in-None.is c.self.invariant in
    let none = clear_where_none c.self.inside.statements c.self.inside.used c.self.inside.words.items kept in
    (λ e n lt. subst (λ (flags : List Bool). is_open flags n ≡ false) c.self.view_is (none n), λ clear. refl)
