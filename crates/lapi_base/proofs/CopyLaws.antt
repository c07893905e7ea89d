-- What a Poll copies is copied after it.
use Rattle.std.proofs.Common.{◌≡◌, true, cond, List, [], ◌∷◌}
use Rattle.std.specs.List.{AllByRecursion}
use Rattle.std.proofs.lemmas.Bool.{cond_both}
use Rattle.lapi_base.specs.declared.message.MsgName.{MsgName}
use Rattle.lapi_base.specs.declared.event.Event.{Event}
use Rattle.lapi_base.specs.declared.event.Event.TheVariants.{Copy}
use Rattle.lapi_base.specs.Record.Names.{Copied, happened}
use Rattle.lapi_base.specs.Record.Acts.{copy_each}
use Rattle.lapi_base.proofs.NameLaws.{happened-head, happened-later}

pub copies-all : (ms : List MsgName) (J : List Event) (m : MsgName) → happened (Copied m) J ≡ true → happened (Copied m) (copy_each J ms) ≡ true
unfolding copy_each
copies-all [] J m h = h
copies-all (n ∷ ms) J m h = copies-all ms (cond (happened (Copied n) J) J (Copy n ∷ J)) m (cond_both (happened (Copied n) J) J (Copy n ∷ J) (λ K. happened (Copied m) K ≡ true) (λ _. h) (λ _. happened-later (Copied m) (Copy n) J h))

pub all-copied : (ms : List MsgName) (J : List Event) → AllByRecursion (λ m. happened (Copied m) (copy_each J ms) ≡ true) ms
unfolding copy_each
all-copied [] J = tt
all-copied (m ∷ ms) J =
    (copies-all ms (cond (happened (Copied m) J) J (Copy m ∷ J)) m (cond_both (happened (Copied m) J) J (Copy m ∷ J) (λ K. happened (Copied m) K ≡ true) (λ h. h) (λ _. happened-head (Copy m) J)), all-copied ms (cond (happened (Copied m) J) J (Copy m ∷ J)))
