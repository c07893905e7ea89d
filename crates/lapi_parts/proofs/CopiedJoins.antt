-- The Joins of an entered statement are copied by one Poll, all of them.
use Rattle.std.proofs.Common.{◌≡◌, ℕ, zero, suc, ◌<◌, ◌==◌, Bool, true, false, cond, ◌&&◌, not, List, [], ◌∷◌, ◌++◌, length, map, Some, refl, sym, ap, ◌∙◌, subst, ⊎_elim}
use Rattle.std.specs.Prelude.{slice_get}
use Rattle.std.specs.List.{AllByRecursion, filter, flat_map}
use Rattle.std.proofs.lemmas.Bool.{false≢true, and_parts, and_from, both_ways, cond_both, cond-true, cond-false, eqb-true, ltb-true}
use Rattle.lapi_base.specs.declared.script.Script.{Script}
use Rattle.lapi_base.specs.declared.rule.Rules.{Rules}
use Rattle.lapi_base.specs.declared.statement.Statement.{Statement}
use Rattle.lapi_base.specs.declared.statement.Statement.TheVariants.{Gfence}
use Rattle.lapi_base.specs.declared.message.Leg.TheVariants.{Go, Join}
use Rattle.lapi_base.specs.declared.message.MsgName.{MsgName}
use Rattle.lapi_base.specs.declared.event.Event.{Event}
use Rattle.lapi_base.specs.declared.event.Event.TheVariants.{Issue, Refuse, Enter, Pass, Copy, Head, Land, Begin, End}
use Rattle.lapi_base.specs.declared.schedule.Act.{Act}
use Rattle.lapi_base.specs.declared.schedule.Act.TheVariants.{Step, Poll, Tick, Deliver, Cut, Inject}
use Rattle.lapi_base.specs.declared.reply.Bad.{Bad}
use Rattle.lapi_base.specs.declared.packet.Packet.{Packet}
use Rattle.lapi_base.specs.Record.Names.{message, Issued, Entered, Copied, key_of, happened}
use Rattle.lapi_base.specs.Record.Operations.{numbers_below, statements, statement, is_data, has_join}
use Rattle.lapi_base.specs.Record.Wires.{Run, start}
use Rattle.lapi_base.specs.Record.Acts.{joins, to_copy_of, ready, copy_each, poll, perform, run_of}
use Rattle.lapi_base.specs.Record.Atomic.{Atomic, needs, has_statement}
use Rattle.lapi_base.specs.Record.Valid.{ValidAct}
use Rattle.lapi_base.specs.Record.WorldView.{HoldsOfRecords}
use Rattle.lapi_base.specs.Laws.Copying.{JoinsAreCopiedTogether}
use Rattle.lapi_base.proofs.CopyLaws.{all-copied}
use Rattle.lapi_base.proofs.EveryRun.{after-keeps}
use Rattle.lapi_base.proofs.NameLaws.{happened-nil, happened-cases, happened-grown}
use Rattle.lapi_base.proofs.UptoLaws.{numbers_below-get}
use Rattle.lapi_laws.proofs.Backward.{closed, there}
use Rattle.lapi_laws.proofs.Lines.{SoundRun}
use Rattle.lapi_laws.proofs.Runs.{start-sound, perform-sound}
use Rattle.lapi_parts.proofs.Records.{of-runs}
use Rattle.lapi_parts.proofs.LineEvents.{IsBy, Adds, line-adds}
use Rattle.lapi_base.proofs.ListLaws.{some-same}
use Rattle.lapi_base.proofs.TestLaws.{eqb-refl, same_tests}

-- ---- what holds of a list holds of what it was made of

all-left : {X : Type 0} (P : X → Type 0) (xs ys : List X) → AllByRecursion P (xs ++ ys) → AllByRecursion P xs
all-left P [] ys h = tt
all-left P (x ∷ xs) ys h = (h.0, all-left P xs ys h.1)

all-right : {X : Type 0} (P : X → Type 0) (xs ys : List X) → AllByRecursion P (xs ++ ys) → AllByRecursion P ys
all-right P [] ys h = h
all-right P (x ∷ xs) ys h = all-right P xs ys h.1

in-flat_map : {X Y : Type 0} (P : Y → Type 0) (f : X → List Y) (xs : List X) (k : ℕ) (x : X) → AllByRecursion P (flat_map f xs) → slice_get xs k ≡ Some x → AllByRecursion P (f x)
in-flat_map P f [] k x h at = absurd (cc)
in-flat_map P f (y ∷ ys) zero x h at = subst (λ z. AllByRecursion P (f z)) (some-same y x at) (all-left P (f y) (flat_map f ys) h)
in-flat_map P f (y ∷ ys) (suc k) x h at = in-flat_map P f ys k x (all-right P (f y) (flat_map f ys) h) at

in-map : {X Y : Type 0} (P : Y → Type 0) (f : X → Y) (t : X → Bool) (xs : List X) (k : ℕ) (x : X) → AllByRecursion P (map f (filter t xs)) → slice_get xs k ≡ Some x → t x ≡ true → P (f x)
in-map P f t [] k x h at pass = absurd (cc)
in-map P f t (y ∷ ys) zero x h at pass =
    let same = some-same y x at in
    subst (λ z. P (f z)) same (subst (λ zs. AllByRecursion P (map f zs)) (cond-true (t y) (y ∷ filter t ys) (filter t ys) (subst (λ z. t z ≡ true) (sym same) pass)) h).0
in-map P f t (y ∷ ys) (suc k) x h at pass =
    cond_both (t y) (y ∷ filter t ys) (filter t ys) (λ zs. AllByRecursion P (map f zs) → P (f x))
    (λ _ g. in-map P f t ys k x g.1 at pass)
    (λ _ g. in-map P f t ys k x g at pass)
    h

not-data : (s : Statement) → has_join s ≡ true → is_data s ≡ false
not-data Gfence h = refl
not-data (Statement.Addr at) h = refl
not-data _ h = absurd (false≢true h)

module _ (script : Script) (rules : Rules) where
  -- after a Poll of its task an entered statement has all its Joins
  polled-joins : (J : List Event) (t i d : ℕ) → i < length (statements script t) → has_join (statement script t i) ≡ true → happened (Entered t i) J ≡ true → d < script.tasks → (d == t) ≡ false → happened (Copied (message t i (Join d))) (copy_each J (ready script J t)) ≡ true
  unfolding ready
  polled-joins J t i d room kind entered task apart =
      let P = λ (m : MsgName). happened (Copied m) (copy_each J (ready script J t)) ≡ true in
      let own = in-flat_map P (to_copy_of script J t) (numbers_below (length (statements script t))) i i (all-copied (ready script J t) J) (numbers_below-get (length (statements script t)) i room) in
      let s = statement script t i in
      let list : to_copy_of script J t i ≡ joins script t i =
      cond-false (is_data s && happened (Issued t i) J) (message t i Go ∷ []) (cond (has_join s && happened (Entered t i) J) (joins script t i) []) (ap (λ b. b && happened (Issued t i) J) (not-data s kind))
      ∙ cond-true (has_join s && happened (Entered t i) J) (joins script t i) [] (and_from _ _ kind entered)
      in
      in-map P (λ x. message t i (Join x)) (λ x. not (x == t)) (numbers_below script.tasks) d d (subst (AllByRecursion P) list own) (numbers_below-get script.tasks d task) (ap not apart)

  abbrev HasPlace : (task statement : ℕ) → Type 0
  HasPlace a i = (i < length (statements script a)) × (has_join (statement script a i) ≡ true)

  -- what a copied Join shows
  join-entered : (J : List Event) (a i d : ℕ) → Atomic script rules J → happened (Copied (message a i (Join d))) J ≡ true → HasPlace a i × (happened (Entered a i) J ≡ true)
  unfolding needs
  join-entered J a i d h c =
      let is = and_parts (has_statement script rules a i) _ (there script rules (Copied (message a i (Join d))) J h c) in
      ((ltb-true _ _ (and_parts _ _ is.0).1, (and_parts _ _ is.1).0), (closed script rules (Copied (message a i (Join d))) J h c).0)

  -- ---- line by line

  abbrev Together : List Event → Type 0
  Together J = (a i d e : ℕ) → e < script.tasks → (e == a) ≡ false → happened (Copied (message a i (Join d))) J ≡ true → happened (Copied (message a i (Join e))) J ≡ true

  -- a line that isn't a Poll of its origin copies no Join
  not-copied : (r : Run) (act : Act) (a i d : ℕ) → (act ≡ Poll a → ⊥) → (added : List Event) → AllByRecursion (IsBy script rules r act) added → happened (Copied (message a i (Join d))) (added ++ r.journal) ≡ true → happened (Copied (message a i (Join d))) r.journal ≡ true
  not-copied r act a i d other [] by c = c
  not-copied r act a i d other (e ∷ es) by c =
      not-copied r act a i d other es by.1
      (⊎_elim
      (λ (x : Copied (message a i (Join d)) ≡ key_of e). absurd (new e x by.0))
      (λ (x : happened (Copied (message a i (Join d))) (es ++ r.journal) ≡ true). x)
      (happened-cases (Copied (message a i (Join d))) e (es ++ r.journal) c))
    where
      new : (f : Event) → Copied (message a i (Join d)) ≡ key_of f → IsBy script rules r act f → ⊥
      new (Copy m) x is = let same : message a i (Join d) ≡ m = cc in other (subst (λ (k : MsgName). IsBy script rules r act (Copy k)) (sym same) is)
      new (Issue b j) x is = let y : ⊥ = cc in y
      new (Refuse b j why) x is = let y : ⊥ = cc in y
      new (Enter b j) x is = let y : ⊥ = cc in y
      new (Pass b j) x is = let y : ⊥ = cc in y
      new (Head m) x is = let y : ⊥ = cc in y
      new (Land m) x is = let y : ⊥ = cc in y
      new (Begin m t w) x is = let y : ⊥ = cc in y
      new (End m t w) x is = let y : ⊥ = cc in y

  -- and a Poll enters nothing
  not-entered : (r : Run) (t a i : ℕ) (added : List Event) → AllByRecursion (IsBy script rules r (Poll t)) added → happened (Entered a i) (added ++ r.journal) ≡ true → happened (Entered a i) r.journal ≡ true
  not-entered r t a i [] by c = c
  not-entered r t a i (e ∷ es) by c =
      not-entered r t a i es by.1
      (⊎_elim
      (λ (x : Entered a i ≡ key_of e). absurd (new e x by.0))
      (λ (x : happened (Entered a i) (es ++ r.journal) ≡ true). x)
      (happened-cases (Entered a i) e (es ++ r.journal) c))
    where
      new : (f : Event) → Entered a i ≡ key_of f → IsBy script rules r (Poll t) f → ⊥
      new (Enter b j) x is = cc
      new (Copy m) x is = let y : ⊥ = cc in y
      new (Issue b j) x is = let y : ⊥ = cc in y
      new (Refuse b j why) x is = let y : ⊥ = cc in y
      new (Pass b j) x is = let y : ⊥ = cc in y
      new (Head m) x is = let y : ⊥ = cc in y
      new (Land m) x is = let y : ⊥ = cc in y
      new (Begin m u w) x is = let y : ⊥ = cc in y
      new (End m u w) x is = let y : ⊥ = cc in y

  other-together : (r s : Run) (act : Act) (a i d e : ℕ) → (act ≡ Poll a → ⊥) → Adds script rules r act s → Together r.journal → e < script.tasks → (e == a) ≡ false → happened (Copied (message a i (Join d))) s.journal ≡ true → happened (Copied (message a i (Join e))) s.journal ≡ true
  other-together r s act a i d e other g old l apart c =
      subst (λ J. happened (Copied (message a i (Join e))) J ≡ true) (sym g.1)
      (happened-grown g.0 r.journal (Copied (message a i (Join e)))
      (old a i d e l apart (not-copied r act a i d other g.0 g.2 (subst (λ J. happened (Copied (message a i (Join d))) J ≡ true) g.1 c))))

  poll-together : (r : Run) (t : ℕ) → SoundRun script rules (poll script rules r t) → Adds script rules r (Poll t) (poll script rules r t) → Together r.journal → Together (poll script rules r t).journal
  unfolding poll
  poll-together r t s g old a i d e l apart c =
      elim (a == t) as (λ b. (a == t) ≡ b → happened (Copied (message a i (Join e))) (copy_each r.journal (ready script r.journal t)) ≡ true) [
        | true ↦ λ same.
            let at = eqb-true a t same in
            let x = join-entered (copy_each r.journal (ready script r.journal t)) a i d s.atomic c in
            let entered = not-entered r t a i g.0 g.2 (subst (λ J. happened (Entered a i) J ≡ true) g.1 x.1) in
            subst (λ u. happened (Copied (message a i (Join e))) (copy_each r.journal (ready script r.journal u)) ≡ true) at
            (polled-joins r.journal a i e x.0.0 x.0.1 entered l apart)
        | false ↦ λ differ. other-together r (poll script rules r t) (Poll t) a i d e (λ (same : Poll t ≡ Poll a). let u : t ≡ a = cc in both_ways _ differ (subst (λ v. (a == v) ≡ true) (sym u) (eqb-refl a))) g old l apart c
      ] refl

  module _ (spells : List ℕ → Bool) (size : Packet → ℕ) (refusal : List ℕ → Bad) where
    abbrev Both : Run → Type 0
    Both r = SoundRun script rules r × Together r.journal

    perform-together : (r : Run) (act : Act) → ValidAct script spells act → Both r → Both (perform script rules size refusal r act)
    unfolding perform
    perform-together r act v h =
        let s = perform-sound script rules spells size refusal r act v h.0 in
        let g = line-adds script rules size refusal r act in
        (s, by act s g)
      where
        by : (act : Act) → SoundRun script rules (perform script rules size refusal r act) → Adds script rules r act (perform script rules size refusal r act) → Together (perform script rules size refusal r act).journal
        by (Poll t) s g = poll-together r t s g h.1
        by (Step t) s g = λ a i d e l apart c. other-together r (perform script rules size refusal r (Step t)) (Step t) a i d e (λ (x : Step t ≡ Poll a). let y : ⊥ = cc in y) g h.1 l apart c
        by (Tick t) s g = λ a i d e l apart c. other-together r (perform script rules size refusal r (Tick t)) (Tick t) a i d e (λ (x : Tick t ≡ Poll a). let y : ⊥ = cc in y) g h.1 l apart c
        by (Deliver x y k) s g = λ a i d e l apart c. other-together r (perform script rules size refusal r (Deliver x y k)) (Deliver x y k) a i d e (λ (z : Deliver x y k ≡ Poll a). let q : ⊥ = cc in q) g h.1 l apart c
        by (Cut x y k n) s g = λ a i d e l apart c. other-together r (perform script rules size refusal r (Cut x y k n)) (Cut x y k n) a i d e (λ (z : Cut x y k n ≡ Poll a). let q : ⊥ = cc in q) g h.1 l apart c
        by (Inject x y bytes) s g = λ a i d e l apart c. other-together r (perform script rules size refusal r (Inject x y bytes)) (Inject x y bytes) a i d e (λ (z : Inject x y bytes ≡ Poll a). let q : ⊥ = cc in q) g h.1 l apart c
        by (Act.Begin t w) s g = λ a i d e l apart c. other-together r (perform script rules size refusal r (Act.Begin t w)) (Act.Begin t w) a i d e (λ (z : Act.Begin t w ≡ Poll a). let q : ⊥ = cc in q) g h.1 l apart c
        by (Act.End t w) s g = λ a i d e l apart c. other-together r (perform script rules size refusal r (Act.End t w)) (Act.End t w) a i d e (λ (z : Act.End t w ≡ Poll a). let q : ⊥ = cc in q) g h.1 l apart c

    run-together : (acts : List Act) → AllByRecursion (ValidAct script spells) acts → Both (run_of script rules size refusal acts)
    unfolding run_of
    run-together acts v = after-keeps script rules size refusal (ValidAct script spells) Both perform-together acts start v (start-sound script rules, λ a i d e l apart c. absurd (both_ways _ (happened-nil (Copied (message a i (Join d)))) c))

pub joins-together : HoldsOfRecords JoinsAreCopiedTogether
joins-together = of-runs JoinsAreCopiedTogether (λ script rules spells size refusal acts v. λ a i d e ld le apart-d apart-e.
    let h = (run-together script rules spells size refusal acts v).1 in
    same_tests _ _ (h a i d e le apart-e) (h a i e d ld apart-d))
