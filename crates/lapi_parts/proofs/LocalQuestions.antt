-- What the statements of a task ask of a journal, they can ask of its own events.
use Rattle.std.proofs.Common.{◌≡◌, ℕ, ◌==◌, Bool, true, false, cond, ◌&&◌, ◌||◌, not, List, [], ◌∷◌, Option, Some, None, refl, sym, ap, ◌∙◌, subst}
use Rattle.std.specs.Prelude.{slice_get, length}
use Rattle.std.specs.List.{flat_map, AllByRecursion}
use Rattle.lapi_base.specs.declared.script.Script.{Script}
use Rattle.lapi_base.specs.declared.address.Addr.{Addr}
use Rattle.lapi_base.specs.declared.address.Addr.TheVariants.{Plain, Table}
use Rattle.lapi_base.specs.declared.rule.Rules.{Rules}
use Rattle.lapi_base.specs.declared.message.Leg.TheVariants.{Go, Back, Join}
use Rattle.lapi_base.specs.declared.message.MsgName.{MsgName}
use Rattle.lapi_base.specs.declared.event.Event.{Event}
use Rattle.lapi_base.specs.declared.event.Event.TheVariants.{Copy}
use Rattle.lapi_base.specs.Record.Below.{every_below, least_missing}
use Rattle.lapi_base.specs.Record.Names.{Issued, Entered, Passed, Copied, Landed, happened, message}
use Rattle.lapi_base.specs.Record.Operations.{numbers_below, statements, statement, sender, receiver, is_data, has_join, has_back, table_rounds}
use Rattle.lapi_base.specs.Record.Refusals.{partner, join_landed, joined, option_any, is_known, refusal_by, refusal_of}
use Rattle.lapi_base.specs.Record.Wires.{Run, numbered, all_numbers, data_done, data_clear, is_acked, base}
use Rattle.lapi_base.specs.Record.Acts.{joins, to_copy_of, ready, copy_each}
use Rattle.lapi_base.specs.Record.TaskPart.{events_at}
use Rattle.lapi_base.proofs.TestLaws.{eqb-refl}
use Rattle.lapi_parts.proofs.LocalEvents.{happened-local, numbered-local, events-here}

pub by_points : {A B : Type 0} (f g : A → B) → ((x : A) → f x ≡ g x) → f ≡ g
by_points f g h = λ i x. h x i

module _ (script : Script) (t : ℕ) where
  E : List Event → List Event
  E J = events_at script t J

  join_landed-local : (J : List Event) (d : ℕ) (o : Option ℕ) → join_landed (E J) t d o ≡ join_landed J t d o
  unfolding E
  join_landed-local J d None = refl
  join_landed-local J d (Some j) = happened-local script t (Landed (message d j (Join t))) refl J

  pub joined-local : (J : List Event) (i : ℕ) → joined script (events_at script t J) t i ≡ joined script J t i
  unfolding joined E
  joined-local J i = ap (every_below script.tasks) (by_points _ _ (λ d. ap (λ b. d == t || b) (join_landed-local J d (partner script t i d))))

  passed-local : (J : List Event) (o : Option ℕ) → option_any (λ i. happened (Passed t i) (events_at script t J)) o ≡ option_any (λ i. happened (Passed t i) J) o
  passed-local J None = refl
  passed-local J (Some i) = happened-local script t (Passed t i) refl J

  known-local : (J : List Event) (a : Addr) → is_known script (events_at script t J) t a ≡ is_known script J t a
  known-local J (Plain x) = refl
  known-local J (Table round offset) = passed-local J (slice_get (table_rounds script t) round)

  pub why-local : (rules : Rules) (J : List Event) (i : ℕ) → refusal_of script rules (events_at script t J) t i ≡ refusal_of script rules J t i
  unfolding refusal_of
  why-local rules J i = ap (λ known. refusal_by script rules known t i) (by_points _ _ (known-local J))

  to_copy-local : (J : List Event) (i : ℕ) → to_copy_of script (events_at script t J) t i ≡ to_copy_of script J t i
  to_copy-local J i =
      ap (λ b. cond (is_data (statement script t i) && b) (message t i Go ∷ []) (cond (has_join (statement script t i) && happened (Entered t i) (events_at script t J)) (joins script t i) [])) (happened-local script t (Issued t i) refl J)
      ∙ ap (λ b. cond (is_data (statement script t i) && happened (Issued t i) J) (message t i Go ∷ []) (cond (has_join (statement script t i) && b) (joins script t i) [])) (happened-local script t (Entered t i) refl J)

  pub ready-local : (J : List Event) → ready script (events_at script t J) t ≡ ready script J t
  unfolding ready
  ready-local J = ap (λ f. flat_map f (numbers_below (length (statements script t)))) (by_points _ _ (to_copy-local J))

  -- the Copy events that a Poll adds are those that the task's own events ask for
  pub copy_each-local : (ms : List MsgName) (J : List Event) → AllByRecursion (λ m. sender script m ≡ t) ms → events_at script t (copy_each J ms) ≡ copy_each (events_at script t J) ms
  unfolding copy_each
  copy_each-local [] J h = refl
  copy_each-local (m ∷ ms) J h =
      copy_each-local ms (cond (happened (Copied m) J) J (Copy m ∷ J)) h.1
      ∙ ap (λ K. copy_each K ms) (one (happened (Copied m) J) ∙ ap (λ b. cond b (events_at script t J) (Copy m ∷ events_at script t J)) (sym (happened-local script t (Copied m) h.0 J)))
    where
      one : (b : Bool) → events_at script t (cond b J (Copy m ∷ J)) ≡ cond b (events_at script t J) (Copy m ∷ events_at script t J)
      one true = refl
      one false = events-here script t (Copy m) J (subst (λ x. (x == t) ≡ true) (sym h.0) (eqb-refl t))

  -- Data-done: by the task's own events, its numbers and what it was acknowledged.
  pub data_done-local : (r : Run) (i : ℕ) → data_done script (record r { journal = events_at script t r.journal }) t i ≡ data_done script r t i
  unfolding data_done
  data_done-local r i =
      let m = message t i Go in
      let E' = events_at script t r.journal in
      let numbers = λ (pairs : List (MsgName × ℕ)). all_numbers script pairs m (is_acked r t (receiver script m)) in
      ap (λ x. cond (has_back (statement script t i)) x (happened (Copied m) E' && numbers (numbered script E' t (receiver script m)))) (happened-local script t (Landed (message t i Back)) refl r.journal)
      ∙ ap (λ x. cond (has_back (statement script t i)) (happened (Landed (message t i Back)) r.journal) (x && numbers (numbered script E' t (receiver script m)))) (happened-local script t (Copied m) refl r.journal)
      ∙ ap (λ pairs. cond (has_back (statement script t i)) (happened (Landed (message t i Back)) r.journal) (happened (Copied m) r.journal && numbers pairs)) (numbered-local script t r.journal (receiver script m))

  -- and clear
  pub data_clear-local : (r : Run) (i : ℕ) → data_clear script (record r { journal = events_at script t r.journal }) t i ≡ data_clear script r t i
  unfolding data_clear
  data_clear-local r i =
      let E' = events_at script t r.journal in
      ap (every_below i) (by_points _ _ (λ j.
      ap (λ x. not (is_data (statement script t j) && x) || data_done script (record r { journal = E' }) t j) (happened-local script t (Issued t j) refl r.journal)
      ∙ ap (λ x. not (is_data (statement script t j) && happened (Issued t j) r.journal) || x) (data_done-local r j)))

  pub base-local : (r : Run) (b : ℕ) → base script (record r { journal = events_at script t r.journal }) t b ≡ base script r t b
  unfolding base
  base-local r b = ap (λ (pairs : List (MsgName × ℕ)). least_missing (length pairs) (is_acked r t b)) (numbered-local script t r.journal b)
