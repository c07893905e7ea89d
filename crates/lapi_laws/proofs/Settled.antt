-- The test for a quiet record agrees with what it stands for.
use Rattle.std.proofs.Common.{◌≡◌, ℕ, ◌<◌, Bool, true, not, List, [], ◌∷◌, Option, Some, None, refl, ap, subst}
use Rattle.std.specs.Prelude.{is_some}
use Rattle.std.specs.List.{list_all, AllByRecursion}
use Rattle.std.proofs.lemmas.Bool.{false≢true, and_parts, and_from, eqb-true, or_left, or_right, not-true, not_from_false}
use Rattle.std.proofs.lemmas.Option.{slice_get_within}
use Rattle.lapi_base.specs.declared.script.Script.{Script}
use Rattle.lapi_base.specs.declared.rule.Rules.{Rules}
use Rattle.lapi_base.specs.declared.packet.Packet.{Packet}
use Rattle.lapi_base.specs.declared.packet.Packet.TheVariants.{Data, Ack}
use Rattle.lapi_base.specs.Record.Below.{every_below}
use Rattle.lapi_base.specs.Record.Jobs.{runs}
use Rattle.lapi_base.specs.Record.Wires.{Run, is_number, has_number, is_acked, to_send}
use Rattle.lapi_base.specs.Record.Final.{Quiet, is_empty, is_told, is_settled, is_idle, is_quiet}
use Rattle.lapi_base.proofs.BelowLaws.{every_below-at, every_below-from}
use Rattle.lapi_base.proofs.ListLaws.{all-weaker, any-all, list_all-at, list_all-each}
use Rattle.lapi_base.proofs.TestLaws.{eqb-refl}
use Rattle.lapi_laws.proofs.Sound.{Fits, number-known}
use Rattle.lapi_laws.proofs.Lines.{SoundRun}
use Rattle.lapi_laws.proofs.Still.{linked}

empty-from : {X : Type 0} (xs : List X) → is_empty xs ≡ true → xs ≡ []
empty-from [] h = refl
empty-from (x ∷ xs) h = absurd (false≢true h)

empty-of : {X : Type 0} (xs : List X) → xs ≡ [] → is_empty xs ≡ true
empty-of xs e = ap is_empty e

none-from : {X : Type 0} (o : Option X) → not (is_some o) ≡ true → o ≡ None
none-from None h = refl
none-from (Some x) h = absurd (false≢true h)

all-both : {X : Type 0} (P Q : X → Type 0) (xs : List X) → AllByRecursion P xs → AllByRecursion Q xs → AllByRecursion (λ x. P x × Q x) xs
all-both P Q [] p q = tt
all-both P Q (x ∷ xs) p q = ((p.0, q.0), all-both P Q xs p.1 q.1)

all-tested : {X : Type 0} (t : X → Bool) (P : X → Type 0) (xs : List X) → ((x : X) → P x → t x ≡ true) → AllByRecursion P xs → list_all t xs ≡ true
all-tested t P xs f h = list_all-at t xs (all-weaker P (λ x. t x ≡ true) f xs h)

module _ (script : Script) (rules : Rules) where
  told-number : (r : Run) (a b n : ℕ) (p : Packet) → is_number n p ≡ true → is_told script rules r a b p ≡ true → is_acked r a b n ≡ true
  told-number r a b n (Data p) e t = subst (λ k. is_acked r a b k ≡ true) (eqb-true p.seq n e) t
  told-number r a b n (Ack layout from to base bits) e t = absurd (false≢true e)

  settled-parts : (r : Run) (a b : ℕ) → is_settled script rules r a b ≡ true → (list_all (is_told script rules r a b) (r.wire a b) ≡ true) × (is_empty (to_send script rules r r.journal a b) ≡ true) × (not (r.owed a b) ≡ true)
  unfolding is_settled
  settled-parts r a b h = let both = and_parts _ _ h in let first = and_parts _ _ both.0 in (first.0, first.1, both.1)

  pub quiet-from : (r : Run) → SoundRun script rules r → is_quiet script rules r ≡ true → Quiet script rules r
  unfolding is_quiet is_idle has_number
  quiet-from r s h =
      let both = and_parts _ _ h in
      let idle : (t : ℕ) → t < script.tasks → is_idle script rules r t ≡ true = λ t l. every_below-at script.tasks (is_idle script rules r) t both.0 l in
      let settled : (a b : ℕ) → a < script.tasks → b < script.tasks → is_settled script rules r a b ≡ true =
      λ a b la lb. every_below-at script.tasks (is_settled script rules r a) b (every_below-at script.tasks (λ x. every_below script.tasks (is_settled script rules r x)) a both.1 la) lb in
      record {
        acked = λ a b n sent.
            let found = any-all (is_number n) (Fits script rules r.journal r.handed a b) (r.wire a b) (s.wires a b) sent in
            let place = number-known script rules r.journal r.handed a b n found.0 found.1 found.2 in
            let ends = linked script rules r.journal s.atomic a b n (slice_get_within _ n place.0 place.1) in
            let parts = settled-parts r a b (settled a b ends.0 ends.1) in
            let told = any-all (is_number n) (λ p. is_told script rules r a b p ≡ true) (r.wire a b) (list_all-each (is_told script rules r a b) (r.wire a b) parts.0) sent in
            told-number r a b n told.0 told.2 told.1;
        resting = record {
          none_waits = λ t l. empty-from _ (and_parts _ _ (and_parts _ _ (idle t l)).0).0;
          none_runs = λ t w l m. none-from _ (every_below-at script.workers (λ v. not (is_some (runs r.journal t v))) w (and_parts _ _ (and_parts _ _ (idle t l)).0).1 m);
          no_copy = λ t l. (and_parts _ _ (idle t l)).1;
          no_entry = λ a b la lb. empty-from _ (settled-parts r a b (settled a b la lb)).1;
        };
        none_owed = λ a b la lb. not-true _ (settled-parts r a b (settled a b la lb)).2;
      }

  is-told : (r : Run) → Quiet script rules r → (a b : ℕ) (ps : List Packet) → ((n : ℕ) → has_number ps n ≡ true → is_acked r a b n ≡ true) → list_all (is_told script rules r a b) ps ≡ true
  unfolding has_number
  is-told r q a b [] h = refl
  is-told r q a b (Data p ∷ ps) h = and_from _ _ (h p.seq (or_left _ _ (eqb-refl p.seq))) (is-told r q a b ps (λ n x. h n (or_right _ _ x)))
  is-told r q a b (Ack layout from to base bits ∷ ps) h = is-told r q a b ps (λ n x. h n x)

  pub quiet-to : (r : Run) → Quiet script rules r → is_quiet script rules r ≡ true
  unfolding is_quiet is_idle is_settled
  quiet-to r q =
      and_from _ _
      (every_below-from script.tasks (is_idle script rules r) (λ t l.
      and_from _ _
      (and_from _ _ (empty-of _ (q.resting.none_waits t l)) (every_below-from script.workers (λ w. not (is_some (runs r.journal t w))) (λ w m. ap (λ o. not (is_some o)) (q.resting.none_runs t w l m))))
      (q.resting.no_copy t l)))
      (every_below-from script.tasks (λ a. every_below script.tasks (is_settled script rules r a)) (λ a la.
      every_below-from script.tasks (is_settled script rules r a) (λ b lb.
      and_from _ _ (and_from _ _ (is-told r q a b (r.wire a b) (q.acked a b)) (empty-of _ (q.resting.no_entry a b la lb))) (not_from_false _ (q.none_owed a b la lb)))))
