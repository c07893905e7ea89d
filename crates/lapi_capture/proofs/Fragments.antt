-- The fragments in the frames of a record are those of the packets that were handed over.
use Rattle.std.proofs.Common.{◌≡◌, ℕ, ◌<◌, ◌==◌, Bool, true, false, cond, ◌&&◌, ◌||◌, not, List, [], ◌∷◌, refl, sym, ap, ◌∙◌, subst, ⊎_elim}
use Rattle.std.specs.List.{list_any, AllByRecursion}
use Rattle.std.proofs.lemmas.Bool.{and_from, and_parts, both_ways, cases_eq, cond_both, eq-eqb, eqb-true, false_from_ne_true, ne_eqb}
use Rattle.lapi_base.specs.declared.message.MsgName.{MsgName}
use Rattle.lapi_base.specs.declared.packet.Packet.{Packet}
use Rattle.lapi_base.specs.declared.packet.Packet.TheVariants.{Data, Ack}
use Rattle.lapi_base.specs.declared.packet.DataPacket.{DataPacket}
use Rattle.lapi_base.specs.declared.script.Script.{Script}
use Rattle.lapi_base.specs.Packet.Layout.{layout_of, unit, unit_of}
use Rattle.lapi_base.specs.Record.Arrived.{count_of, has_fragment, whole_by}
use Rattle.lapi_base.specs.Record.Below.{every_below}
use Rattle.lapi_base.specs.Record.Fragments.{fragments_in}
use Rattle.lapi_base.specs.Record.Names.{name_eq}
use Rattle.lapi_base.specs.Record.Operations.{message_length, receiver, sender}
use Rattle.lapi_base.proofs.BelowLaws.{every_below-at}
use Rattle.lapi_base.proofs.NameLaws.{name_eq-refl, name_eq-true}
use Rattle.lapi_capture.specs.declared.incoming.Incoming.{Incoming}
use Rattle.lapi_capture.specs.declared.part.Part.{Part}
use Rattle.lapi_capture.specs.Parts.{count, disagrees, has, is_same, is_whole, lands}
use Rattle.lapi_capture.proofs.FrameBytes.{part_in}

turned : (m n : ℕ) → (m == n) ≡ (n == m)
turned m n =
    ⊎_elim
    (λ (e : m ≡ n). eq-eqb m n e ∙ sym (eq-eqb n m (sym e)))
    (λ (ne : m ≡ n → ⊥). ne_eqb m n ne ∙ sym (ne_eqb n m (λ e. ne (sym e))))
    (cases_eq m n)

none-any : {X : Type 0} (t : X → Bool) (xs : List X) → AllByRecursion (λ x. t x ≡ false) xs → list_any t xs ≡ false
none-any t [] h = refl
none-any t (x ∷ xs) h = ap (λ b. b || list_any t xs) h.0 ∙ none-any t xs h.1

not-both : (x y : Bool) → y ≡ x → (not x && y) ≡ false
not-both true y e = refl
not-both false y e = e

module _ (script : Script) where
  -- a message at the task that it comes to
  abbrev pub incoming : MsgName → Incoming
  incoming m = record { name = m; to = receiver script m }

  abbrev pub Same : List Part → (handed : (from to : ℕ) → List Packet) → Type 0
  Same ps handed = (m : MsgName) (j : ℕ) → has ps (incoming m) j ≡ has_fragment (handed (sender script m) (receiver script m)) m j

  -- a part is one of the script's messages
  abbrev pub IsOfScript : Part → Type 0
  IsOfScript part = (part.layout ≡ script.layout) × (part.length ≡ message_length script part.message.name)

  pub agrees : (part : Part) (ps : List Part) → IsOfScript part → AllByRecursion IsOfScript ps → list_any (disagrees part) ps ≡ false
  agrees part ps is all = none-any (disagrees part) ps (each ps all)
    where
      lengths : (e : Part) → IsOfScript e → is_same e.message part.message ≡ true → (part.layout == e.layout && part.length == e.length) ≡ true
      lengths e of same =
          let name = name_eq-true e.message.name part.message.name (and_parts _ _ same).0 in
          and_from _ _ (eq-eqb part.layout e.layout (is.0 ∙ sym of.0)) (eq-eqb part.length e.length (is.1 ∙ sym (ap (message_length script) name) ∙ sym of.1))

      one : (e : Part) → IsOfScript e → disagrees part e ≡ false
      one e of =
          elim (is_same e.message part.message) as (λ t. is_same e.message part.message ≡ t → (t && not (part.layout == e.layout && part.length == e.length)) ≡ false) [
            | true ↦ λ same. ap not (lengths e of same)
            | false ↦ λ same. refl
          ] refl

      each : (es : List Part) → AllByRecursion IsOfScript es → AllByRecursion (λ e. disagrees part e ≡ false) es
      each [] h = tt
      each (e ∷ es) h = (one e h.0, each es h.1)

  -- an acknowledgement that was handed over tells of none
  pub same-ack : (ps : List Part) (handed : (from to : ℕ) → List Packet) (a b layout x y base bits : ℕ) → Same ps handed
      → Same ps (λ u v. cond (u == a && v == b) (Ack layout x y base bits ∷ handed u v) (handed u v))
  unfolding has_fragment
  same-ack ps handed a b layout x y base bits same m j =
      cond_both (sender script m == a && receiver script m == b) (Ack layout x y base bits ∷ handed (sender script m) (receiver script m)) (handed (sender script m) (receiver script m)) (λ hs. has ps (incoming m) j ≡ has_fragment hs m j)
      (λ _. same m j) (λ _. same m j)

  module _ (p : DataPacket) (to : p.to ≡ receiver script p.name) where
    -- a data packet of another message
    other : (m : MsgName) → name_eq p.name m ≡ false → name_eq m p.name ≡ false
    other m e = false_from_ne_true _ (λ t. both_ways _ e (subst (λ k. name_eq p.name k ≡ true) (sym (name_eq-true m p.name t)) (name_eq-refl p.name)))

    -- and of this one
    own : (m : MsgName) → name_eq p.name m ≡ true → name_eq m p.name ≡ true
    own m e = subst (λ k. name_eq m k ≡ true) (sym (name_eq-true p.name m e)) (name_eq-refl m)

    pub same-data : (ps : List Part) (handed : (from to : ℕ) → List Packet) (a b : ℕ) → sender script p.name ≡ a → receiver script p.name ≡ b → Same ps handed
        → Same (part_in p ∷ ps) (λ u v. cond (u == a && v == b) (Data p ∷ handed u v) (handed u v))
    unfolding has_fragment
    same-data ps handed a b sent came same m j =
        let hs = handed (sender script m) (receiver script m) in
        let old = has_fragment hs m j in
        let here = λ (t : Bool). ((t && p.to == receiver script m) && j == p.fragment) || has ps (incoming m) j in
        let test = sender script m == a && receiver script m == b in
        elim (name_eq p.name m) as (λ t. name_eq p.name m ≡ t → here t ≡ has_fragment (cond test (Data p ∷ hs) hs) m j) [
          | true ↦ λ e.
              let is = name_eq-true p.name m e in
              let place : (p.to == receiver script m) ≡ true = eq-eqb _ _ (to ∙ ap (receiver script) is) in
              let tested : test ≡ true = and_from _ _ (eq-eqb _ _ (sym (ap (sender script) is) ∙ sent)) (eq-eqb _ _ (sym (ap (receiver script) is) ∙ came)) in
              ap (λ t. ((true && t) && j == p.fragment) || has ps (incoming m) j) place
              ∙ ap (λ t. (j == p.fragment) || t) (same m j)
              ∙ ap (λ t. t || old) (turned j p.fragment)
              ∙ ap (λ t. (t && p.fragment == j) || old) (sym (own m e))
              ∙ ap (λ t. has_fragment (cond t (Data p ∷ hs) hs) m j) (sym tested)
          | false ↦ λ e.
              same m j
              ∙ cond_both test (Data p ∷ hs) hs (λ xs. old ≡ has_fragment xs m j) (λ _. ap (λ t. (t && p.fragment == j) || old) (sym (other m e))) (λ _. refl)
        ] refl

    -- a message is whole by its parts where it is by its packets
    pub whole-same : (ps : List Part) (hs : List Packet) → p.layout ≡ script.layout → ((j : ℕ) → has ps (part_in p).message j ≡ has_fragment hs p.name j) → is_whole ps (part_in p) ≡ whole_by (count_of script p.length) hs p.name
    unfolding whole_by count_of unit_of
    whole-same ps hs layout same =
        ap (λ l. every_below (fragments_in (unit (layout_of l)) p.length) (has ps (part_in p).message)) layout
        ∙ (λ i. every_below (fragments_in (unit (layout_of script.layout)) p.length) (λ j. same j i))

    -- with a fragment that is there already nothing lands
    pub known-lands : (ps : List Part) → has ps (part_in p).message p.fragment ≡ true → lands ps (part_in p) ≡ false
    known-lands ps there = not-both (is_whole ps (part_in p)) (is_whole (part_in p ∷ ps) (part_in p)) (λ i. every_below (count (part_in p)) (λ j. one j i))
      where
        one : (j : ℕ) → has (part_in p ∷ ps) (part_in p).message j ≡ has ps (part_in p).message j
        one j =
            elim (j == p.fragment) as (λ t. (j == p.fragment) ≡ t → ((is_same (part_in p).message (part_in p).message && t) || has ps (part_in p).message j) ≡ has ps (part_in p).message j) [
              | true ↦ λ e.
                  let is : has ps (part_in p).message j ≡ true = subst (λ k. has ps (part_in p).message k ≡ true) (sym (eqb-true j p.fragment e)) there in
                  ap (λ h. (is_same (part_in p).message (part_in p).message && true) || h) is ∙ or-true (is_same (part_in p).message (part_in p).message && true) ∙ sym is
              | false ↦ λ e. none (is_same (part_in p).message (part_in p).message) (has ps (part_in p).message j)
            ] refl
          where
            or-true : (x : Bool) → (x || true) ≡ true
            or-true true = refl
            or-true false = refl

            none : (x h : Bool) → ((x && false) || h) ≡ h
            none true h = refl
            none false h = refl

    -- and with one that is missing what becomes whole
    pub new-lands : (ps : List Part) → has ps (part_in p).message p.fragment ≡ false → p.fragment < count (part_in p) → lands ps (part_in p) ≡ is_whole (part_in p ∷ ps) (part_in p)
    new-lands ps missing lt = ap (λ t. not t && is_whole (part_in p ∷ ps) (part_in p)) (false_from_ne_true _ (λ all. both_ways _ missing (every_below-at (count (part_in p)) (has ps (part_in p).message) p.fragment all lt)))
