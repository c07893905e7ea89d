-- The copies of a poll, one statement after another.
use Rattle.std.proofs.Common.{◌≡◌, ℕ, ◌+◌, ◌<◌, ◌≤◌, List, [], ◌∷◌, ◌++◌, length, refl, sym, ap, ◌∙◌, subst, arith, append_assoc}
use Rattle.std.proofs.lemmas.Grind.{flat_map-append}
use Rattle.std.proofs.lemmas.List.{append-nil, length-append}
use Rattle.lapi_base.specs.declared.script.Script.{Script}
use Rattle.lapi_base.specs.declared.rule.Rules.{Rules}
use Rattle.lapi_base.specs.declared.event.Event.{Event}
use Rattle.lapi_base.specs.Record.Atomic.{Atomic}
use Rattle.lapi_base.specs.Record.Below.{below}
use Rattle.lapi_base.specs.Record.Operations.{statements}
use Rattle.lapi_base.specs.Record.Wires.{Run, numbered}
use Rattle.lapi_base.specs.Record.Acts.{followed, copy_each, ready, poll}
use Rattle.lapi_base.proofs.ListLaws.{flat_map-push}
use Rattle.lapi_laws.proofs.Lines.{poll-sound}
use Rattle.lapi_laws.proofs.Once.{atomic-end}
use Rattle.lapi_laws.proofs.SentWindow.{grows-cons}
use Rattle.lapi_parts.proofs.CopiedJoins.{joins-together}
use Rattle.lapi_parts.proofs.Receivable.{sent-numbers, acked-sent}
use Rattle.lapi_parts.proofs.Records.{record-sound}
use Rattle.lapi_task.specs.declared.task.Task.{Task}
use Rattle.lapi_task.specs.Copies.{copies_of, CopiesNext, HasCopied, AllCopied}
use Rattle.lapi_task.specs.HasEffect.{IsAt}
use Rattle.lapi_task.specs.StandsFor.{is_uncopied, StandsFor}
use Rattle.lapi_task.proofs.Copying.CopyLists.{copies, all_copies, followed-append, followed-none, followed-push, ends-in, to-copy-later, copies-all}

-- the messages of the statements of a list were copied, and others wait
pub record SomeCopied (script : Script) (rules : Rules) (t : ℕ) (r : Run) (task : Task) (old new : List Event) (turns : ℕ) : Type 0 where
  pub copied : List ℕ
  pub count : length copied ≡ turns
  pub listed : below (length (statements script t)) (is_uncopied script r.journal t) ≡ copied ++ task.state.uncopied.items
  pub added : new ≡ old ++ all_copies script r.journal t copied
  pub stands : StandsFor script rules t task (record r { journal = followed r.journal (all_copies script r.journal t copied) })

module _ (script : Script) (rules : Rules) (t : ℕ) (r : Run) where
  abbrev J : List Event
  J = r.journal

  abbrev then : List ℕ → List Event
  then numbers = followed J (all_copies script J t numbers)

  pub none-copied : (task : Task) (events : List Event) → IsAt script rules t task r → SomeCopied script rules t r task events events 0
  none-copied task events at = record {
    copied = [];
    count = refl;
    listed = sym at.stands.holds.uncopied;
    added = sym (append-nil events);
    stands = subst (λ (K : List Event). StandsFor script rules t task (record r { journal = K })) (sym (followed-none J)) at.stands;
  }

  polled-atomic : (first : Task) → IsAt script rules t first r → Atomic script rules (copy_each J (ready script J t))
  unfolding poll
  polled-atomic first at = (poll-sound script rules r t (record-sound script rules r at.recorded)).atomic

  polled-is : (first : Task) → IsAt script rules t first r → copy_each J (ready script J t) ≡ then (below (length (statements script t)) (is_uncopied script J t))
  polled-is first at = copies-all script rules r (joins-together script rules r at.recorded) t

  numbers-grow : (es K : List Event) (a b : ℕ) → length (numbered script K a b) ≤ length (numbered script (followed K es) a b)
  unfolding followed
  numbers-grow [] K a b = omega arith
  numbers-grow (e ∷ es) K a b = let one = grows-cons script rules e K a b in let rest = numbers-grow es (e ∷ K) a b in omega (arith, one, rest)

  -- what a statement may copy is the same after others were copied
  later-same : (i : ℕ) (numbers : List ℕ) → copies_of script (then numbers) t i ≡ copies_of script J t i
  later-same i numbers = ap copies (to-copy-later script t J J i numbers)

  -- the next one may be copied
  pub copies-next : (first task : Task) (old new : List Event) (turns i : ℕ) (rest : List ℕ) → IsAt script rules t first r → (h : SomeCopied script rules t r task old new turns) → task.state.uncopied.items ≡ i ∷ rest → CopiesNext script rules t task (record r { journal = then h.copied }) i rest
  copies-next first task old new turns i rest at h list = record {
    known = at.known;
    stands = h.stands;
    first = list;
    told = λ b n acked. let here = sent-numbers script rules r at.recorded t b n (acked-sent script rules r at.recorded t b n acked) in let more = numbers-grow (all_copies script J t h.copied) J t b in omega (arith, here, more);
    atomic =
        let done = h.copied ++ i ∷ [] in
        let whole : copy_each J (ready script J t) ≡ followed (then done) (all_copies script J t rest) =
        polled-is first at
        ∙ ap then (h.listed ∙ ap (λ (is : List ℕ). h.copied ++ is) list ∙ sym (append_assoc h.copied (i ∷ []) rest))
        ∙ ap (followed J) (flat_map-append (copies_of script J t) done rest)
        ∙ followed-append J (all_copies script J t done) (all_copies script J t rest) in
        let ends = ends-in (all_copies script J t rest) (then done) in
        subst (Atomic script rules) (followed-push script J J t h.copied i ∙ ap (followed (then h.copied)) (sym (later-same i h.copied)))
        (atomic-end script rules ends.0 (then done) (subst (Atomic script rules) (whole ∙ ends.1) (polled-atomic first at)));
  }

  pub one-copied : (task after : Task) (old new newer : List Event) (turns i : ℕ) (rest : List ℕ) → (h : SomeCopied script rules t r task old new turns) → task.state.uncopied.items ≡ i ∷ rest → HasCopied script rules t (record r { journal = then h.copied }) i rest after new newer → SomeCopied script rules t r after old newer (turns + 1)
  one-copied task after old new newer turns i rest h list g =
      let same = later-same i h.copied in
      record {
        copied = h.copied ++ i ∷ [];
        count = length-append h.copied (i ∷ []) ∙ (let c = h.count in omega (arith, c));
        listed = h.listed ∙ ap (λ (is : List ℕ). h.copied ++ is) (list ∙ ap (λ (is : List ℕ). i ∷ is) (sym g.left)) ∙ sym (append_assoc h.copied (i ∷ []) after.state.uncopied.items);
        added =
            g.added
            ∙ (λ k. h.added k ++ same k)
            ∙ append_assoc old (all_copies script J t h.copied) (copies_of script J t i)
            ∙ ap (λ (es : List Event). old ++ es) (sym (flat_map-push (copies_of script J t) h.copied i));
        stands =
            subst (λ (K : List Event). StandsFor script rules t after (record r { journal = K }))
            (ap (followed (then h.copied)) same ∙ sym (followed-push script J J t h.copied i)) g.stands;
      }

  nothing-left : (xs ys : List ℕ) → length (xs ++ ys) ≡ length xs → ys ≡ []
  nothing-left xs [] e = refl
  nothing-left xs (y ∷ ys) e = absurd (let l = length-append xs (y ∷ ys) in omega (arith, l, e))

  -- after as many turns as there were
  pub all-copied : (first task : Task) (old new : List Event) (turns : ℕ) → IsAt script rules t first r → SomeCopied script rules t r task old new turns → turns ≡ length first.state.uncopied.items → AllCopied script rules t r task old new
  all-copied first task old new turns at h e =
      let total : length (h.copied ++ task.state.uncopied.items) ≡ length h.copied = ap length (sym h.listed ∙ sym at.stands.holds.uncopied) ∙ sym e ∙ sym h.count in
      let none = nothing-left h.copied task.state.uncopied.items total in
      record {
        events = all_copies script J t h.copied;
        added = h.added;
        copied = ap then (sym (append-nil h.copied) ∙ ap (λ (is : List ℕ). h.copied ++ is) (sym none) ∙ sym h.listed) ∙ sym (polled-is first at);
        stands = h.stands;
      }

  some-of : (xs ys : List ℕ) → length xs < length (xs ++ ys) → (i : ℕ) × (rest : List ℕ) × (ys ≡ i ∷ rest)
  some-of xs [] l = absurd (let e = length-append xs [] in omega (arith, e, l))
  some-of xs (y ∷ ys) l = (y, ys, refl)

  -- before that one is left
  pub one-left : (first task : Task) (old new : List Event) (turns : ℕ) → IsAt script rules t first r → SomeCopied script rules t r task old new turns → turns < length first.state.uncopied.items → (i : ℕ) × (rest : List ℕ) × (task.state.uncopied.items ≡ i ∷ rest)
  one-left first task old new turns at h l =
      let total : length first.state.uncopied.items ≡ length (h.copied ++ task.state.uncopied.items) = ap length (at.stands.holds.uncopied ∙ h.listed) in
      some-of h.copied task.state.uncopied.items (let c = h.count in omega (arith, total, c, l))
