-- What a put and an answer do to the messages of a link, from what they do to the slab.
use Rattle.std.proofs.Common.{◌≡◌, ◌≢◌, ◌⊎◌, ℕ, ◌<◌, Bool, true, false, cond, List, length, Option, Some, None, is_some, IfSome, sym, ap, ◌∙◌, inl, inr}
use Rattle.std.specs.Option.{unwrap_or}
use Rattle.std.proofs.lemmas.Bool.{false≢true}
use Rattle.slab.specs.Slab.{Slab, get, values, HasRoomFor, Updates}
use Rattle.lapi_base.specs.declared.message.MsgName.{MsgName}
use Rattle.lapi_base.specs.declared.head.Head.{Head}
use Rattle.lapi_base.specs.declared.handler.HeaderOut.{HeaderOut}
use Rattle.lapi_reassembly.specs.declared.put.Put.{Put}
use Rattle.lapi_base.specs.Record.Fragments.{fragments_in, fragment_length, IsPayload}
use Rattle.lapi_reassembly.specs.Partial.{Gathered, IsMessageOf, nothing_of, with_fragment, is_whole}
use Rattle.lapi_reassembly.specs.Partials.{Gathering, found, partial, is_there, HasRoom, Agrees, gathered, put_of, whole_of, kept_of, IsGathering}
use Rattle.lapi_reassembly.proofs.Lookups.{NoneAt, Renewed, renewed_held, renewed_absent, found_none, found_at, same_some, room_for_one}

kept_same : (x h : Gathered) → kept_of x ≡ Some h → x ≡ h
kept_same x h = by_test (is_whole x)
  where
    by_test : (b : Bool) → cond b None (Some x) ≡ Some h → x ≡ h
    by_test true e = absurd (cc)
    by_test false e = same_some x h e

module _ (names unit : ℕ) (s t : Slab Gathered) (S : Gathering) (is : record { names = names; unit = unit; partials = values s } ≡ S) (holds : IsGathering names unit s) (name : MsgName) (capacity : t.capacity ≡ s.capacity) where
  same_unit : unit ≡ S.unit
  same_unit = ap (λ x. x.unit) is

  others_of : (slot : Option Gathered) → Renewed s t name slot → (other : MsgName) → other ≢ name → found other (values t) ≡ partial S other
  others_of slot r other differs = r.others other differs ∙ ap (λ x. partial x other) is

  -- The message is kept under a key.
  module _ (key : ℕ) (kept : (g : Gathered) × (get s key ≡ Some g) × (g.name ≡ name)) where
    pub is_found : partial S name ≡ Some kept.0
    is_found = ap (λ x. partial x name) (sym is) ∙ found_at names unit s key kept.0 name holds kept.1 kept.2

    unit_of_kept : kept.0.unit ≡ S.unit
    unit_of_kept = holds.units key kept.0 kept.1 ∙ same_unit

    pub more_fragment : (head : Head) (len j : ℕ) → Agrees S name head len → j < fragments_in S.unit len → IfSome (get s key) (λ g. j < fragments_in g.unit g.length)
    more_fragment head len j message below =
        let agrees = rw is_found at message in
        rw kept.1 (rw (unit_of_kept, agrees.1) below)

    pub more_payload : (head : Head) (len j : ℕ) (payload : List ℕ) → Agrees S name head len → IsPayload S.unit len j payload → IfSome (get s key) (λ g. length payload ≡ fragment_length g.unit g.length j)
    more_payload head len j payload message long =
        let agrees = rw is_found at message in
        rw kept.1 (rw (unit_of_kept, agrees.1) long)

    pub more_whole : (head : Head) (len : ℕ) (put : Put) → Agrees S name head len → IfSome (get s key) (λ g. IfSome (whole_of put) (IsMessageOf g.name g.head g.length)) → IfSome (whole_of put) (IsMessageOf name head len)
    more_whole head len put message whole =
        let agrees = rw is_found at message in
        let told = rw kept.1 at whole in
        rw (kept.2, agrees.0, agrees.1) at told

    module _ (head : Head) (len j : ℕ) (payload : List ℕ) where
      abbrev pub after : Gathered
      after = with_fragment kept.0 j payload

      pub more_answer : (put : Put) → IfSome (get s key) (λ g. put ≡ put_of true (with_fragment g j payload)) → put ≡ put_of (is_there S name) (gathered S name head len j payload)
      more_answer put answer =
          let told = rw kept.1 at answer in
          told ∙ ap (λ o. put_of (is_some o) (with_fragment (unwrap_or o (nothing_of S.unit name head len)) j payload)) (sym is_found)

      more_renewed : IfSome (get s key) (λ g. Updates s t key (kept_of (with_fragment g j payload))) → Renewed s t name (kept_of after) × IsGathering names unit t
      more_renewed updates =
          let told = rw kept.1 at updates in
          renewed_held names unit s t key name (kept_of after) holds told capacity
          (λ h e. let same = kept_same after h e in (sym (ap (λ x. x.name) same) ∙ kept.2, sym (ap (λ x. x.unit) same) ∙ holds.units key kept.0 kept.1))
          kept.0 kept.1 kept.2

      pub more_holds : IfSome (get s key) (λ g. Updates s t key (kept_of (with_fragment g j payload))) → IsGathering names unit t
      more_holds updates = (more_renewed updates).1

      pub more_name : IfSome (get s key) (λ g. Updates s t key (kept_of (with_fragment g j payload))) → found name (values t) ≡ kept_of (gathered S name head len j payload)
      more_name updates = (more_renewed updates).0.name ∙ ap (λ o. kept_of (with_fragment (unwrap_or o (nothing_of S.unit name head len)) j payload)) (sym is_found)

      pub more_others : IfSome (get s key) (λ g. Updates s t key (kept_of (with_fragment g j payload))) → (other : MsgName) → other ≢ name → found other (values t) ≡ partial S other
      more_others updates = others_of (kept_of after) (more_renewed updates).0

    -- Its header's answer is kept.
    module _ (out : HeaderOut) (updates : IfSome (get s key) (λ g. Updates s t key (Some (record g { out = Some out })))) where
      answered : Renewed s t name (Some (record kept.0 { out = Some out })) × IsGathering names unit t
      answered =
          let told = rw kept.1 at updates in
          renewed_held names unit s t key name (Some (record kept.0 { out = Some out })) holds told capacity
          (λ h e. let same = same_some (record kept.0 { out = Some out }) h e in (sym (ap (λ x. x.name) same) ∙ kept.2, sym (ap (λ x. x.unit) same) ∙ holds.units key kept.0 kept.1))
          kept.0 kept.1 kept.2

      pub answer_holds : IsGathering names unit t
      answer_holds = answered.1

      pub answer_name : IfSome (partial S name) (λ g. found name (values t) ≡ Some (record g { out = Some out }))
      answer_name = rw is_found answered.0.name

      pub answer_others : (other : MsgName) → other ≢ name → found other (values t) ≡ partial S other
      answer_others = others_of (Some (record kept.0 { out = Some out })) answered.0

  -- No key has the name.
  module _ (absent : NoneAt s.slots name) where
    pub not_found : partial S name ≡ None
    not_found = ap (λ x. partial x name) (sym is) ∙ found_none name s.slots absent

    pub not_there : is_there S name ≡ true → ⊥
    not_there there = false≢true (sym (ap is_some not_found) ∙ there)

    pub first_room : (is_there S name ≡ true) ⊎ HasRoom S → HasRoomFor s 1
    first_room room =
        elim room [
          | inl there ↦ absurd (not_there there)
          | inr more ↦ room_for_one names unit s (rw (sym is) at more) holds.names_differ holds.room
        ]

    module _ (head : Head) (len j : ℕ) (payload : List ℕ) (p : Gathered) (made : p ≡ with_fragment (nothing_of unit name head len) j payload) where
      gathered_first : p ≡ gathered S name head len j payload
      gathered_first =
          made
          ∙ ap (λ u. with_fragment (nothing_of u name head len) j payload) same_unit
          ∙ ap (λ o. with_fragment (unwrap_or o (nothing_of S.unit name head len)) j payload) (sym not_found)

      pub first_answer : (put : Put) → put ≡ put_of false p → put ≡ put_of (is_there S name) (gathered S name head len j payload)
      first_answer put answer = answer ∙ ap (λ b. put_of b p) (sym (ap is_some not_found)) ∙ ap (put_of (is_there S name)) gathered_first

      module _ (updates : (key : ℕ) × (get s key ≡ None) × Updates s t key (kept_of p)) where
        first_renewed : Renewed s t name (kept_of p) × IsGathering names unit t
        first_renewed =
            renewed_absent names unit s t updates.0 name (kept_of p) holds updates.2 capacity
            (λ h e. let same = sym (kept_same p h e) ∙ made in (ap (λ x. x.name) same, ap (λ x. x.unit) same))
            updates.1 absent

        pub first_holds : IsGathering names unit t
        first_holds = first_renewed.1

        pub first_name : found name (values t) ≡ kept_of (gathered S name head len j payload)
        first_name = first_renewed.0.name ∙ ap kept_of gathered_first

        pub first_others : (other : MsgName) → other ≢ name → found other (values t) ≡ partial S other
        first_others = others_of (kept_of p) first_renewed.0
