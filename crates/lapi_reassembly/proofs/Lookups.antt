-- Looking a message up by its name among the slots of a slab, before and after one of them changes.
use Rattle.std.proofs.Common.{◌≡◌, ◌≢◌, ◌⊎◌, ℕ, zero, suc, ◌≤◌, Bool, true, false, cond, List, [], ◌∷◌, length, map, get_or, count_by, Option, Some, None, is_some, refl, sym, ap, ◌∙◌, inl, inr, arith}
use Rattle.std.specs.List.{filter_map, AllByRecursion, IsDistinct}
use Rattle.std.specs.Option.{unwrap_or}
use Rattle.std.proofs.lemmas.Bool.{cases_eq, false≢true}
use Rattle.std.proofs.lemmas.List.{length-map}
use Rattle.std.proofs.lemmas.List.Sums.{sum_by-cons}
use Rattle.slab.specs.Slab.{Slab, get, values, HasRoomFor, Updates}
use Rattle.lapi_base.specs.declared.message.MsgName.{MsgName}
use Rattle.lapi_base.specs.Record.Names.{name_eq}
use Rattle.lapi_base.proofs.NameLaws.{name_eq-false, name_eq-refl, name_eq-true}
use Rattle.lapi_reassembly.specs.Partial.{Gathered}
use Rattle.lapi_reassembly.specs.Partials.{found, HasRoom, NamesDiffer, IsGathering}

-- no slot has the name
abbrev pub NoneAt : List (Option Gathered) → MsgName → Type 0
NoneAt slots name = (key : ℕ) (g : Gathered) → get_or slots key None ≡ Some g → g.name ≢ name

abbrev pub kept : List (Option Gathered) → List Gathered
kept slots = filter_map (λ slot. slot) slots

none_cons : (slot : Option Gathered) (rest : List (Option Gathered)) (name : MsgName) → ((g : Gathered) → slot ≡ Some g → g.name ≢ name) → NoneAt rest name → NoneAt (slot ∷ rest) name
none_cons slot rest name head tail zero g e = head g e
none_cons slot rest name head tail (suc key) g e = tail key g e

pub found_none : (name : MsgName) (slots : List (Option Gathered)) → NoneAt slots name → found name (kept slots) ≡ None
unfolding found
found_none name [] absent = refl
found_none name (None ∷ rest) absent = found_none name rest (λ key g e. absent (suc key) g e)
found_none name (Some g ∷ rest) absent = ap (λ b. cond b (Some g) (found name (kept rest))) (name_eq-false g.name name (absent 0 g refl)) ∙ found_none name rest (λ key h e. absent (suc key) h e)

-- either no slot has the name, or one has it and is found
abbrev pub IsAbsent : MsgName → List (Option Gathered) → Type 0
IsAbsent name slots = (found name (kept slots) ≡ None) × NoneAt slots name

abbrev pub IsFound : MsgName → List (Option Gathered) → Type 0
IsFound name slots = (key : ℕ) × (g : Gathered) × (found name (kept slots) ≡ Some g) × (get_or slots key None ≡ Some g) × (g.name ≡ name)

pub same_some : (g h : Gathered) → Some g ≡ Some h → g ≡ h
same_some g h e = ap (λ slot. unwrap_or slot g) e

cases_cons : (name : MsgName) (g : Gathered) (rest : List (Option Gathered)) → IsAbsent name rest ⊎ IsFound name rest → (b : Bool) → name_eq g.name name ≡ b → IsAbsent name (Some g ∷ rest) ⊎ IsFound name (Some g ∷ rest)
unfolding found
cases_cons name g rest before true e = inr (0, g, ap (λ b. cond b (Some g) (found name (kept rest))) e, refl, name_eq-true g.name name e)
cases_cons name g rest before false e =
    let skip : found name (kept (Some g ∷ rest)) ≡ found name (kept rest) = ap (λ b. cond b (Some g) (found name (kept rest))) e in
    elim before [
      | inl absent ↦ inl (skip ∙ absent.0, none_cons (Some g) rest name (λ h q named. false≢true (sym e ∙ ap (λ m. name_eq m name) (ap (λ x. x.name) (same_some g h q) ∙ named) ∙ name_eq-refl name)) absent.1)
      | inr here ↦ inr (suc here.0, here.1, skip ∙ here.2, here.3, here.4)
    ]

pub found_cases : (name : MsgName) (slots : List (Option Gathered)) → IsAbsent name slots ⊎ IsFound name slots
unfolding found
found_cases name [] = inl (refl, λ key g e. absurd (cc))
found_cases name (None ∷ rest) =
    elim (found_cases name rest) [
      | inl absent ↦ inl (absent.0, none_cons None rest name (λ g e. absurd (cc)) absent.1)
      | inr here ↦ inr (suc here.0, here.1, here.2, here.3, here.4)
    ]
found_cases name (Some g ∷ rest) = cases_cons name g rest (found_cases name rest) (name_eq g.name name) refl

pub found_some : (name : MsgName) (slots : List (Option Gathered)) (key : ℕ) (g : Gathered) → ((k : ℕ) (h : Gathered) → get_or slots k None ≡ Some h → h.name ≡ name → k ≡ key) → get_or slots key None ≡ Some g → g.name ≡ name → found name (kept slots) ≡ Some g
found_some name slots key g only there named =
    elim (found_cases name slots) [
      | inl absent ↦ absurd (absent.1 key g there named)
      | inr here ↦
          let same = only here.0 here.1 here.3 here.4 in
          here.2 ∙ sym here.3 ∙ ap (λ k. get_or slots k None) same ∙ there
    ]

-- A slot changes that held this name, or none, where no other slot holds it.
pub record Renewed (s t : Slab Gathered) (m : MsgName) (slot : Option Gathered) : Type 0 where
  pub name : found m (values t) ≡ slot
  pub others : (other : MsgName) → other ≢ m → found other (values t) ≡ found other (values s)
  pub differ : NamesDiffer t

module _ (s t : Slab Gathered) (key : ℕ) (name : MsgName) (slot : Option Gathered) (differ : NamesDiffer s) (only : (k : ℕ) (g : Gathered) → get s k ≡ Some g → g.name ≡ name → k ≡ key) (held : (g : Gathered) → get s key ≡ Some g → g.name ≡ name) (updates : Updates s t key slot) (named : (g : Gathered) → slot ≡ Some g → g.name ≡ name) where
  named_now : (k : ℕ) (g : Gathered) → get t k ≡ Some g → k ≡ key → g.name ≡ name
  named_now k g e same = named g (sym updates.changed ∙ ap (get t) (sym same) ∙ e)

  kept_now : (k : ℕ) (g : Gathered) → get t k ≡ Some g → k ≢ key → get s k ≡ Some g
  kept_now k g e ne = sym (updates.others k ne) ∙ e

  only_now : (k : ℕ) (g : Gathered) → get t k ≡ Some g → g.name ≡ name → k ≡ key
  only_now k g e on =
      elim (cases_eq k key) [
        | inl same ↦ same
        | inr ne ↦ only k g (kept_now k g e ne) on
      ]

  differ_now : NamesDiffer t
  differ_now k l g h gk hl same =
      elim (cases_eq k key) [
        | inl at ↦ at ∙ sym (only_now l h hl (sym same ∙ named_now k g gk at))
        | inr ne ↦
            elim (cases_eq l key) [
              | inl at ↦ only_now k g gk (same ∙ named_now l h hl at) ∙ sym at
              | inr further ↦ differ k l g h (kept_now k g gk ne) (kept_now l h hl further) same
            ]
      ]

  found_now : (now : Option Gathered) → slot ≡ now → found name (values t) ≡ now
  found_now None e = found_none name t.slots (λ k g there on. let same = only_now k g there on in let none : Some g ≡ None = sym there ∙ ap (get t) same ∙ updates.changed ∙ e in absurd (cc))
  found_now (Some g) e = found_some name t.slots key g only_now (updates.changed ∙ e) (named g e)

  other_now : (other : MsgName) → other ≢ name → found other (values t) ≡ found other (values s)
  other_now other ne =
      elim (found_cases other s.slots) [
        | inl absent ↦
            found_none other t.slots (λ k g there on.
            elim (cases_eq k key) [
              | inl at ↦ ne (sym on ∙ named_now k g there at)
              | inr apart ↦ absent.1 k g (kept_now k g there apart) on
            ])
            ∙ sym absent.0
        | inr here ↦
            let apart : here.0 ≢ key = λ at. ne (sym here.4 ∙ held here.1 (ap (get s) (sym at) ∙ here.3)) in
            let there : get t here.0 ≡ Some here.1 = updates.others here.0 apart ∙ here.3 in
            found_some other t.slots here.0 here.1 (λ k h e on. differ_now k here.0 h here.1 e there (on ∙ sym here.4)) there here.4
            ∙ sym here.2
      ]

  pub renewed : Renewed s t name slot
  renewed = record { name = found_now slot refl; others = other_now; differ = differ_now }

-- The messages that a slab holds are those of a link, before and after.
module _ (names unit : ℕ) (s t : Slab Gathered) (key : ℕ) (name : MsgName) (slot : Option Gathered) (holds : IsGathering names unit s) (updates : Updates s t key slot) (capacity : t.capacity ≡ s.capacity) (fits : (g : Gathered) → slot ≡ Some g → (g.name ≡ name) × (g.unit ≡ unit)) where
  units_now : (k : ℕ) (g : Gathered) → get t k ≡ Some g → g.unit ≡ unit
  units_now k g e =
      elim (cases_eq k key) [
        | inl same ↦ (fits g (sym updates.changed ∙ ap (get t) (sym same) ∙ e)).1
        | inr ne ↦ holds.units k g (sym (updates.others k ne) ∙ e)
      ]

  still : NamesDiffer t → IsGathering names unit t
  still differ = record { unit = holds.unit; room = rw capacity holds.room; units = units_now; names_differ = differ }

  -- the slot held the message of this name
  pub renewed_held : (g : Gathered) → get s key ≡ Some g → g.name ≡ name → Renewed s t name slot × IsGathering names unit t
  renewed_held g there named =
      let r = renewed s t key name slot holds.names_differ (λ k h e on. holds.names_differ k key h g e there (on ∙ sym named)) (λ h e. ap (λ x. x.name) (same_some h g (sym e ∙ there)) ∙ named) updates (λ h e. (fits h e).0) in
      (r, still r.differ)

  -- the slot held nothing, and no slot has the name
  pub renewed_absent : get s key ≡ None → NoneAt s.slots name → Renewed s t name slot × IsGathering names unit t
  renewed_absent vacant absent =
      let r = renewed s t key name slot holds.names_differ (λ k h e on. absurd (absent k h e on)) (λ h e. let none : None ≡ Some h = sym vacant ∙ e in absurd (cc)) updates (λ h e. (fits h e).0) in
      (r, still r.differ)

-- what is found under a key
pub found_at : (names unit : ℕ) (s : Slab Gathered) (key : ℕ) (g : Gathered) (name : MsgName) → IsGathering names unit s → get s key ≡ Some g → g.name ≡ name → found name (values s) ≡ Some g
found_at names unit s key g name holds there named = found_some name s.slots key g (λ k h e on. holds.names_differ k key h g e there (on ∙ sym named)) there named

-- As many names are there as slots hold one.
pub length-kept : (slots : List (Option Gathered)) → length (kept slots) ≡ count_by is_some slots
length-kept [] = refl
length-kept (None ∷ rest) = omega (arith, length-kept rest, sum_by-cons (λ o. cond (is_some o) 1 0) None rest)
length-kept (Some g ∷ rest) = omega (arith, length-kept rest, sum_by-cons (λ o. cond (is_some o) 1 0) (Some g) rest)

abbrev pub names_of : List Gathered → List MsgName
names_of gs = map (λ g. g.name) gs

absent_names : (name : MsgName) (slots : List (Option Gathered)) → NoneAt slots name → AllByRecursion (λ m. name_eq name m ≡ false) (names_of (kept slots))
absent_names name [] absent = tt
absent_names name (None ∷ rest) absent = absent_names name rest (λ key g e. absent (suc key) g e)
absent_names name (Some g ∷ rest) absent = (name_eq-false name g.name (λ e. absent 0 g refl (sym e)), absent_names name rest (λ key h e. absent (suc key) h e))

distinct_names : (slots : List (Option Gathered)) → ((k l : ℕ) (g h : Gathered) → get_or slots k None ≡ Some g → get_or slots l None ≡ Some h → g.name ≡ h.name → k ≡ l) → IsDistinct name_eq (names_of (kept slots))
unfolding IsDistinct
distinct_names [] differ = tt
distinct_names (None ∷ rest) differ = distinct_names rest (λ k l g h gk hl e. let same = differ (suc k) (suc l) g h gk hl e in omega (arith, same))
distinct_names (Some g ∷ rest) differ = (
  absent_names g.name rest (λ key h e on. let same = differ (suc key) 0 h g e refl on in absurd (omega (arith, same))),
  distinct_names rest (λ k l g h gk hl e. let same = differ (suc k) (suc l) g h gk hl e in omega (arith, same)),
)

there_cons : (m : MsgName) (g : Gathered) (gs : List Gathered) → is_some (found m gs) ≡ true → is_some (found m (g ∷ gs)) ≡ true
unfolding found
there_cons m g gs there = by_test (name_eq g.name m)
  where
    by_test : (b : Bool) → is_some (cond b (Some g) (found m gs)) ≡ true
    by_test true = refl
    by_test false = there

all_there_cons : (g : Gathered) (gs : List Gathered) (ms : List MsgName) → AllByRecursion (λ m. is_some (found m gs) ≡ true) ms → AllByRecursion (λ m. is_some (found m (g ∷ gs)) ≡ true) ms
all_there_cons g gs [] all = tt
all_there_cons g gs (m ∷ ms) all = (there_cons m g gs all.0, all_there_cons g gs ms all.1)

all_there : (gs : List Gathered) → AllByRecursion (λ m. is_some (found m gs) ≡ true) (names_of gs)
unfolding found
all_there [] = tt
all_there (g ∷ gs) = (ap (λ b. is_some (cond b (Some g) (found g.name gs))) (name_eq-refl g.name), all_there_cons g gs (names_of gs) (all_there gs))

pub room_for_one : (most unit : ℕ) (s : Slab Gathered) → HasRoom (record { names = most; unit = unit; partials = values s }) → NamesDiffer s → most ≤ s.capacity → HasRoomFor s 1
room_for_one most unit s room differ fits =
    let few = room (names_of (values s)) (distinct_names s.slots differ) (all_there (values s)) in
    omega (arith, few, fits, length-map (values s) (λ (g : Gathered). g.name), length-kept s.slots)
