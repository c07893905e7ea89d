-- What the fields of a partial message stand for: when a fragment comes, when all have, and what they make.
use Rattle.std.proofs.Common.{◌≡◌, ◌≢◌, ℕ, zero, suc, ◌+◌, ◌*◌, ◌%◌, ◌^◌, ◌<◌, ◌≤◌, ◌==◌, Bool, true, false, max, cond, bit_or, List, [], ◌∷◌, ◌++◌, length, map, take, set, replicate, get_or, Option, Some, None, is_some, refl, sym, ap, ◌∙◌, ⊎_elim, inl, inr, arith}
use Rattle.std.specs.Int.{w64, bit_at, div_ceil}
use Rattle.std.specs.List.{range_with_len, list_all, flat_map}
use Rattle.std.specs.Option.{unwrap_or}
use Rattle.std.proofs.lemmas.Bool.{both_ways, cases_lt, cases_eq, eqb-true, le-leb, lt-leb}
use Rattle.std.proofs.lemmas.List.{get_or-set_other, length-set, length-replicate, get_or-replicate, get_or_default, take_all, append-nil}
use Rattle.std.proofs.lemmas.List.FromFn.{length-map-range_with_len, get_or-map-range_with_len, map-range_with_len_more, fill_by_all}
use Rattle.std.proofs.lemmas.List.Folds.{list_all_at}
use Rattle.std.proofs.lemmas.List.Sums.{list_all-from_AllPass, AllPass-from_list_all}
use Rattle.std.proofs.Math.Dec.{leb}
use Rattle.std.proofs.lemmas.Grind.{flat_map-append, get_or-set_at}
use Rattle.std.proofs.lemmas.Nat.Bits.{bit_at_set_same, bit_at_set_other, bit_at-zero}
use Rattle.std.proofs.lemmas.Nat.{or_lt}
use Rattle.std.proofs.Math.Seq.{take-add}
use Rattle.lapi_base.specs.Record.Fragments.{fragments_in, fragment_length, fragment_bytes}
use Rattle.lapi_base.proofs.BitLaws.{IsRun, one_bit, no_bit}
use Rattle.lapi_reassembly.specs.Partial.{IsUnit, IsPartial, fragments_of}
use Rattle.lapi_reassembly.proofs.Chunks.{written, length-written, part_there, chunk_before, chunk_after}

-- Places of fragments.
pub place_within : (unit len j : ℕ) → IsUnit unit → j < fragments_in unit len → unit * j ≤ len
place_within unit len j size below =
    elim size [
      | inl e ↦ (let b = rw e at below in rw e (omega (arith, b)))
      | inr e ↦ (let b = rw e at below in rw e (omega (arith, b)))
    ]

pub count_fits : (unit len : ℕ) → IsPartial unit len → fragments_in unit len ≤ 64
count_fits unit len fits =
    elim fits.unit [
      | inl e ↦ (let b = rw e at fits.length in rw e (omega (arith, b)))
      | inr e ↦ (let b = rw e at fits.length in rw e (omega (arith, b)))
    ]

pub all_covered : (unit len : ℕ) → IsUnit unit → len ≤ unit * fragments_in unit len
all_covered unit len size =
    elim size [
      | inl e ↦ rw e (omega arith)
      | inr e ↦ rw e (omega arith)
    ]

pub apart : (unit j k : ℕ) → IsUnit unit → k < j → unit * k + unit ≤ unit * j
apart unit j k size lt =
    elim size [
      | inl e ↦ rw e (omega arith)
      | inr e ↦ rw e (omega arith)
    ]

pub ceiling : (unit len : ℕ) → IsUnit unit → max (div_ceil len unit) 1 ≡ fragments_in unit len
ceiling unit len size =
    elim size [
      | inl e ↦ rw e (omega arith)
      | inr e ↦ rw e (omega arith)
    ]

-- fragment j, as the fields tell it
abbrev pub chunk : (unit received : ℕ) → List ℕ → ℕ → Option (List ℕ)
chunk unit received bytes j = cond (bit_at received j == 1) (Some (fragment_bytes unit j bytes)) None

pub length-fragments : (unit received : ℕ) (bytes : List ℕ) → length (fragments_of unit received bytes) ≡ fragments_in unit (length bytes)
unfolding fragments_of
length-fragments unit received bytes = length-map-range_with_len (chunk unit received bytes) 0 (fragments_in unit (length bytes))

pub fragment-at : (unit received j : ℕ) (bytes : List ℕ) → j < fragments_in unit (length bytes) → get_or (fragments_of unit received bytes) j None ≡ chunk unit received bytes j
unfolding fragments_of
fragment-at unit received j bytes below = get_or-map-range_with_len (chunk unit received bytes) 0 (fragments_in unit (length bytes)) j j None below (omega arith)

-- a list that tells each fragment as the fields do
pub fragments-by_all : (unit received : ℕ) (bytes : List ℕ) (fragments : List (Option (List ℕ))) → length fragments ≡ fragments_in unit (length bytes) → ((j : ℕ) → j < fragments_in unit (length bytes) → get_or fragments j None ≡ chunk unit received bytes j) → fragments ≡ fragments_of unit received bytes
unfolding fragments_of
fragments-by_all unit received bytes fragments long each = fill_by_all (chunk unit received bytes) fragments (fragments_in unit (length bytes)) None long each

-- At first none has come.
pub none_at_first : (unit : ℕ) (bytes : List ℕ) → fragments_of unit 0 bytes ≡ replicate (fragments_in unit (length bytes)) None
none_at_first unit bytes =
    let n = fragments_in unit (length bytes) in
    sym (fragments-by_all unit 0 bytes (replicate n None) (length-replicate n None) (λ j below.
    get_or-replicate n j None None below ∙ sym (ap (λ b. cond (b == 1) (Some (fragment_bytes unit j bytes)) None) (bit_at-zero j))))

-- A fragment comes.
pub more_fits : (received j : ℕ) → received < 2 ^ 64 → bit_or received (1 * 2 ^ j % 2 ^ 64) < 2 ^ 64
more_fits received j fits = or_lt 64 received (1 * 2 ^ j % 2 ^ 64) fits (omega arith)

module _ (unit received j : ℕ) (bytes payload : List ℕ) (fits : IsPartial unit (length bytes)) (below : j < fragments_in unit (length bytes)) (long : length payload ≡ fragment_length unit (length bytes) j) where
  abbrev pub more : ℕ
  more = bit_or received (1 * 2 ^ j % 2 ^ 64)

  abbrev pub written_bytes : List ℕ
  written_bytes = written bytes payload (unit * j)

  within : unit * j ≤ length bytes
  within = place_within unit (length bytes) j fits.unit below

  j_fits : j < 64
  j_fits = omega (arith, below, count_fits unit (length bytes) fits)

  pub length_same : length written_bytes ≡ length bytes
  length_same = length-written bytes payload (unit * j) (omega (arith, within, long))

  same : (k : ℕ) → k ≡ j → Some payload ≡ chunk unit more written_bytes k
  same k e =
      let bit : bit_at more k ≡ 1 = ap (bit_at more) e ∙ bit_at_set_same w64 received j j_fits in
      let bytes_there : fragment_bytes unit k written_bytes ≡ payload = ap (λ x. fragment_bytes unit x written_bytes) e ∙ part_there bytes payload (unit * j) unit within long in
      sym (ap (λ b. cond (b == 1) (Some (fragment_bytes unit k written_bytes)) None) bit ∙ ap Some bytes_there)

  other_bytes : (k : ℕ) → k ≢ j → fragment_bytes unit k written_bytes ≡ fragment_bytes unit k bytes
  other_bytes k differs =
      ⊎_elim
      (λ (lt : k < j). chunk_before bytes payload (unit * j) unit (unit * k) (apart unit j k fits.unit lt) within)
      (λ (ge : j ≤ k).
      let above : j < k = omega (arith, differs) in
      let far = apart unit k j fits.unit above in
      ap (take unit) (chunk_after bytes payload (unit * j) (unit * k) (omega (arith, far, long)) within))
      (cases_lt k j)

  other : (k : ℕ) → k ≢ j → chunk unit received bytes k ≡ chunk unit more written_bytes k
  other k differs =
      sym (ap (λ b. cond (b == 1) (Some (fragment_bytes unit k written_bytes)) None) (bit_at_set_other w64 received j j_fits k differs)
      ∙ ap (λ x. cond (bit_at received k == 1) (Some x) None) (other_bytes k differs))

  pub fragment_comes : fragments_of unit more written_bytes ≡ set (fragments_of unit received bytes) j (Some payload)
  fragment_comes =
      let old = fragments_of unit received bytes in
      let n = fragments_in unit (length bytes) in
      let count : fragments_in unit (length written_bytes) ≡ n = ap (fragments_in unit) length_same in
      sym (fragments-by_all unit more written_bytes (set old j (Some payload))
      (length-set old j (Some payload) ∙ length-fragments unit received bytes ∙ sym count)
      (λ k l.
      let lt : k < n = omega (arith, l, count) in
      ⊎_elim
      (λ (e : k ≡ j). get_or-set_at old j k (Some payload) None e (omega (arith, below, length-fragments unit received bytes)) ∙ same k e)
      (λ (ne : k ≢ j). get_or-set_other old j k (Some payload) None ne ∙ fragment-at unit received k bytes lt ∙ other k ne)
      (cases_eq k j)))

-- All fragments have come.
some_of_chunk : (unit received j : ℕ) (bytes : List ℕ) → is_some (chunk unit received bytes j) ≡ (bit_at received j == 1)
some_of_chunk unit received j bytes = by_bit (bit_at received j == 1)
  where
    by_bit : (b : Bool) → is_some (cond b (Some (fragment_bytes unit j bytes)) None) ≡ b
    by_bit true = refl
    by_bit false = refl

some_at : (unit received j : ℕ) (bytes : List ℕ) → j < fragments_in unit (length bytes) → is_some (get_or (fragments_of unit received bytes) j None) ≡ (bit_at received j == 1)
some_at unit received j bytes below = ap is_some (fragment-at unit received j bytes below) ∙ some_of_chunk unit received j bytes

pub whole_by_run : (unit received t : ℕ) (bytes : List ℕ) → IsPartial unit (length bytes) → IsRun received t → leb (fragments_in unit (length bytes)) t ≡ list_all is_some (fragments_of unit received bytes)
whole_by_run unit received t bytes fits run =
    let fragments = fragments_of unit received bytes in
    let n = fragments_in unit (length bytes) in
    let count = length-fragments unit received bytes in
    ⊎_elim
    (λ (lt : t < n).
    let missing : is_some (get_or fragments t None) ≡ false = some_at unit received t bytes lt ∙ ap (λ b. b == 1) (no_bit received t (λ set. both_ways _ run.clear set)) in
    lt-leb n t lt ∙ sym (list_all_at is_some fragments t None (omega (arith, lt, count)) missing))
    (λ (ge : n ≤ t).
    le-leb n t ge
    ∙ sym (list_all-from_AllPass is_some fragments (λ k d l.
    let lt : k < n = omega (arith, l, count) in
    ap is_some (get_or_default fragments k d None l) ∙ some_at unit received k bytes lt ∙ ap (λ b. b == 1) (one_bit received k (run.set k (omega (arith, lt, ge)))))))
    (cases_lt t n)

-- The payloads one after another are the message's bytes.
next_place : (unit m : ℕ) → IsUnit unit → unit * m + unit ≡ unit * (m + 1)
next_place unit m size =
    elim size [
      | inl e ↦ rw e (omega arith)
      | inr e ↦ rw e (omega arith)
    ]

module _ (unit received : ℕ) (bytes : List ℕ) (size : IsUnit unit) where
  bytes_at : (j : ℕ) → bit_at received j ≡ 1 → unwrap_or (chunk unit received bytes j) [] ≡ fragment_bytes unit j bytes
  bytes_at j e = ap (λ b. unwrap_or (cond (b == 1) (Some (fragment_bytes unit j bytes)) None) []) e

  first_joined : (m : ℕ) → ((j : ℕ) → j < m → bit_at received j ≡ 1) → flat_map (λ payload. unwrap_or payload []) (map (chunk unit received bytes) (range_with_len 0 m)) ≡ take (unit * m) bytes
  first_joined zero all = let none : 0 ≡ unit * 0 = omega arith in ap (λ n. take n bytes) none
  first_joined (suc m) all =
      let before = first_joined m (λ j l. all j (omega arith)) in
      let on : suc m ≡ m + 1 = omega arith in
      let front = map (chunk unit received bytes) (range_with_len 0 m) in
      let last = chunk unit received bytes m in
      let join = flat_map (λ (payload : Option (List ℕ)). unwrap_or payload []) in
      ap (λ n. join (map (chunk unit received bytes) (range_with_len 0 n))) on
      ∙ ap join (map-range_with_len_more (chunk unit received bytes) 0 m m (omega arith))
      ∙ flat_map-append (λ (payload : Option (List ℕ)). unwrap_or payload []) front (last ∷ [])
      ∙ ap (λ xs. xs ++ join (last ∷ [])) before
      ∙ ap (λ xs. take (unit * m) bytes ++ xs) (append-nil (unwrap_or last []) ∙ bytes_at m (all m (omega arith)))
      ∙ sym (take-add (unit * m) unit bytes)
      ∙ ap (λ n. take n bytes) (next_place unit m size ∙ ap (λ n. unit * n) (sym on))

  pub whole_joined : list_all is_some (fragments_of unit received bytes) ≡ true → flat_map (λ payload. unwrap_or payload []) (fragments_of unit received bytes) ≡ bytes
  unfolding fragments_of
  whole_joined whole =
      let n = fragments_in unit (length bytes) in
      let fragments = map (chunk unit received bytes) (range_with_len 0 n) in
      let each = AllPass-from_list_all is_some fragments whole in
      first_joined n (λ j l.
      eqb-true (bit_at received j) 1 (sym (some_at unit received j bytes l) ∙ each j None (omega (arith, l, length-fragments unit received bytes))))
      ∙ take_all (unit * n) bytes (all_covered unit (length bytes) size)
