-- Entries that are put on their wires, and events that are added to a journal.
use Rattle.std.proofs.Common.{◌≡◌, ℕ, ◌+◌, ◌*◌, ◌<◌, ◌==◌, Bool, true, false, cond, List, [], ◌∷◌, ◌++◌, map, filter, reverse, set, Option, Some, None, refl, sym, ap, ◌∙◌, subst, ⊎_elim, append_assoc, arith}
use Rattle.std.specs.Prelude.{slice_get, option_map}
use Rattle.std.specs.List.{AllByRecursion}
use Rattle.std.proofs.lemmas.Bool.{cases_eq, ne_eqb, eq-eqb, cond-true, cond-false}
use Rattle.std.proofs.lemmas.List.{append-nil, reverse-append}
use Rattle.lapi_base.specs.declared.event.Event.{Event}
use Rattle.lapi_base.specs.declared.wire.WireEntry.{WireEntry}
use Rattle.lapi_base.specs.Record.Acts.{followed}
use Rattle.lapi_base.proofs.ListLaws.{get-set, get-set-other}
use Rattle.lapi_task.specs.HasEffect.{bytes_to}
use Rattle.lapi_world.specs.Grows.{bytes_at, ArePut}
use Rattle.lapi_world.proofs.Pairs.{place-apart}

-- the events of a journal whose newest stands first, with some after it, in order
pub reverse-followed : (J es : List Event) → reverse (followed J es) ≡ reverse J ++ es
unfolding followed
reverse-followed J [] = sym (append-nil (reverse J))
reverse-followed J (e ∷ es) = reverse-followed (e ∷ J) es ∙ ap (λ (k : List Event). k ++ es) (reverse-append (e ∷ []) J) ∙ append_assoc (reverse J) (e ∷ []) es

appended-twice : (xs ys : List (List ℕ)) (o : Option (List (List ℕ))) → option_map (λ wire. wire ++ (xs ++ ys)) o ≡ option_map (λ wire. wire ++ ys) (option_map (λ wire. wire ++ xs) o)
appended-twice xs ys None = refl
appended-twice xs ys (Some wire) = ap Some (sym (append_assoc wire xs ys))

appended-none : (o : Option (List (List ℕ))) → o ≡ option_map (λ wire. wire ++ []) o
appended-none None = refl
appended-none (Some wire) = ap Some (sym (append-nil wire))

module _ (tasks t : ℕ) where
  pub none-put : (wires : List (List (List ℕ))) → ArePut tasks t [] wires wires
  none-put wires = λ place. appended-none (slice_get wires place)

  bytes-more : (place : ℕ) (es : List WireEntry) (e : WireEntry) → bytes_at tasks t place (es ++ e ∷ []) ≡ bytes_at tasks t place es ++ cond (t * tasks + e.to == place) (e.bytes ∷ []) []
  bytes-more place [] e = split (t * tasks + e.to == place)
    where
      split : (b : Bool) → map (λ (x : WireEntry). x.bytes) (cond b (e ∷ []) []) ≡ cond b (e.bytes ∷ []) []
      split true = refl
      split false = refl
  bytes-more place (x ∷ es) e = split (t * tasks + x.to == place) (bytes-more place es e)
    where
      split : (b : Bool) → bytes_at tasks t place (es ++ e ∷ []) ≡ bytes_at tasks t place es ++ cond (t * tasks + e.to == place) (e.bytes ∷ []) []
          → map (λ (y : WireEntry). y.bytes) (cond b (x ∷ filter (λ (y : WireEntry). t * tasks + y.to == place) (es ++ e ∷ [])) (filter (λ (y : WireEntry). t * tasks + y.to == place) (es ++ e ∷ [])))
          ≡ map (λ (y : WireEntry). y.bytes) (cond b (x ∷ filter (λ (y : WireEntry). t * tasks + y.to == place) es) (filter (λ (y : WireEntry). t * tasks + y.to == place) es)) ++ cond (t * tasks + e.to == place) (e.bytes ∷ []) []
      split true h = ap (λ (bs : List (List ℕ)). x.bytes ∷ bs) h
      split false h = h

  -- one wire got the bytes of one entry
  set-one : (wires : List (List (List ℕ))) (at place : ℕ) (wire : List (List ℕ)) (bytes : List ℕ) → slice_get wires at ≡ Some wire → slice_get (set wires at (wire ++ bytes ∷ [])) place ≡ option_map (λ w. w ++ cond (at == place) (bytes ∷ []) []) (slice_get wires place)
  set-one wires at place wire bytes found =
      ⊎_elim
      (λ (same : at ≡ place).
      subst (λ n. slice_get (set wires at (wire ++ bytes ∷ [])) n ≡ option_map (λ w. w ++ cond (at == n) (bytes ∷ []) []) (slice_get wires n)) same
      (get-set wires at wire (wire ++ bytes ∷ []) found
      ∙ ap (λ (bs : List (List ℕ)). Some (wire ++ bs)) (sym (cond-true (at == at) (bytes ∷ []) [] (eq-eqb at at refl)))
      ∙ ap (option_map (λ w. w ++ cond (at == at) (bytes ∷ []) [])) (sym found)))
      (λ (apart : at ≡ place → ⊥).
      get-set-other wires at place (wire ++ bytes ∷ []) (λ e. apart (sym e))
      ∙ appended-none (slice_get wires place)
      ∙ ap (λ (bs : List (List ℕ)). option_map (λ w. w ++ bs) (slice_get wires place)) (sym (cond-false (at == place) (bytes ∷ []) [] (ne_eqb at place apart))))
      (cases_eq at place)

  -- one entry more
  pub one-put : (es : List WireEntry) (e : WireEntry) (old wires : List (List (List ℕ))) (at : ℕ) (wire : List (List ℕ)) → ArePut tasks t es old wires → at ≡ t * tasks + e.to → slice_get wires at ≡ Some wire → ArePut tasks t (es ++ e ∷ []) old (set wires at (wire ++ e.bytes ∷ []))
  one-put es e old wires at wire h is found = λ place.
      set-one wires at place wire e.bytes found
      ∙ ap (λ n. option_map (λ w. w ++ cond (n == place) (e.bytes ∷ []) []) (slice_get wires place)) is
      ∙ ap (option_map (λ w. w ++ cond (t * tasks + e.to == place) (e.bytes ∷ []) [])) (h place)
      ∙ sym (appended-twice (bytes_at tasks t place es) (cond (t * tasks + e.to == place) (e.bytes ∷ []) []) (slice_get old place))
      ∙ ap (λ (bs : List (List ℕ)). option_map (λ w. w ++ bs) (slice_get old place)) (sym (bytes-more place es e))

  pub put-length : (es : List WireEntry) (old new : List (List (List ℕ))) (place : ℕ) (wire : List (List ℕ)) → ArePut tasks t es old new → slice_get old place ≡ Some wire → slice_get new place ≡ Some (wire ++ bytes_at tasks t place es)
  put-length es old new place wire h found = h place ∙ ap (option_map (λ w. w ++ bytes_at tasks t place es)) found

  -- The wires from the task itself, and those from others.
  same-place : (x b : ℕ) → (t * tasks + x == t * tasks + b) ≡ (x == b)
  same-place x b =
      ⊎_elim
      (λ (same : x ≡ b). eq-eqb (t * tasks + x) (t * tasks + b) (ap (λ n. t * tasks + n) same) ∙ sym (eq-eqb x b same))
      (λ (apart : x ≡ b → ⊥). ne_eqb (t * tasks + x) (t * tasks + b) (λ e. apart (let q : x ≡ b = omega (arith, e) in q)) ∙ sym (ne_eqb x b apart))
      (cases_eq x b)

  pub own-bytes : (b : ℕ) (es : List WireEntry) → bytes_at tasks t (t * tasks + b) es ≡ bytes_to b es
  own-bytes b es = λ i. map (λ (e : WireEntry). e.bytes) (filter (λ (e : WireEntry). same-place e.to b i) es)

  pub other-bytes : (a b : ℕ) (es : List WireEntry) → b < tasks → (a ≡ t → ⊥) → AllByRecursion (λ (e : WireEntry). e.to < tasks) es → bytes_at tasks t (a * tasks + b) es ≡ []
  other-bytes a b [] l apart h = refl
  other-bytes a b (e ∷ es) l apart h =
      ap (λ c. map (λ (x : WireEntry). x.bytes) (cond c (e ∷ filter (λ (x : WireEntry). t * tasks + x.to == a * tasks + b) es) (filter (λ (x : WireEntry). t * tasks + x.to == a * tasks + b) es)))
      (ne_eqb (t * tasks + e.to) (a * tasks + b) (λ same. apart (sym (place-apart tasks t e.to a b h.0 l same).0)))
      ∙ other-bytes a b es l apart h.1
