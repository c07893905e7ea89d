-- The numbers that packets have, and the least that none of them has.
use Rattle.std.proofs.Common.{◌≡◌, ℕ, suc, ◌<◌, ◌≤◌, ◌==◌, max, true, false, ◌||◌, List, [], ◌∷◌, ◌++◌, ⊎_elim, arith, ◌^◌, Some}
use Rattle.std.specs.List.{list_any}
use Rattle.std.proofs.lemmas.Bool.{false≢true, eqb-true, or_cases, cases_lt, false_from_ne_true}
use Rattle.std.proofs.lemmas.List.Folds.{list_any-append}
use Rattle.std.specs.Prelude.{slice_get}
use Rattle.lapi_base.specs.declared.packet.Packet.{Packet}
use Rattle.lapi_base.specs.declared.packet.Packet.TheVariants.{Data, Ack}
use Rattle.lapi_base.specs.Record.Wires.{is_number, has_number, base}
use Rattle.lapi_base.specs.declared.packet.DataPacket.{DataPacket}
use Rattle.lapi_base.specs.Record.Arrived.{has_some, is_part_of, number_bound, least_number}
use Rattle.lapi_base.proofs.ListLaws.{any-get}
use Rattle.lapi_base.proofs.NameLaws.{name_eq-refl}
use Rattle.lapi_base.proofs.BelowLaws.{least_missing-not, least_missing-least}

pub number-append : (xs ys : List Packet) (n : ℕ) → has_number (xs ++ ys) n ≡ (has_number xs n || has_number ys n)
unfolding has_number
number-append xs ys n = list_any-append (is_number n) xs ys

bound-own : (n p m : ℕ) → (p == n) ≡ true → n < max (suc p) m
bound-own n p m h = let e : p ≡ n = eqb-true p n h in omega arith

pub bound-above : (packets : List Packet) (n : ℕ) → has_number packets n ≡ true → n < number_bound packets
unfolding has_number number_bound
bound-above [] n h = absurd (false≢true h)
bound-above (Data p ∷ ps) n h =
    ⊎_elim
    (λ (x : (p.seq == n) ≡ true). bound-own n p.seq (number_bound ps) x)
    (λ (x : list_any (is_number n) ps ≡ true). let l : n < number_bound ps = bound-above ps n x in omega arith)
    (or_cases (p.seq == n) (list_any (is_number n) ps) h)
bound-above (Ack layout from to base bits ∷ ps) n h = bound-above ps n h

-- the least number that isn't there isn't there
pub least-absent : (ps : List Packet) → has_number ps (least_number ps) ≡ false
unfolding least_number
least-absent ps =
    ⊎_elim
    (λ (lt : least_number ps < number_bound ps). least_missing-not (number_bound ps) (has_number ps) lt)
    (λ (ge : number_bound ps ≤ least_number ps). false_from_ne_true _ (λ there. let l : least_number ps < number_bound ps = bound-above ps (least_number ps) there in absurd (omega arith)))
    (cases_lt (least_number ps) (number_bound ps))

pub least-small : (ps : List Packet) → ((n : ℕ) → has_number ps n ≡ true → n < 2 ^ 22) → least_number ps ≤ 2 ^ 22
unfolding least_number
least-small ps few = least_missing-least (number_bound ps) (has_number ps) (2 ^ 22) (false_from_ne_true _ (λ there. let l : 2 ^ 22 < 2 ^ 22 = few (2 ^ 22) there in absurd (omega arith)))

-- a packet that is there is one of its message
pub some-there : (ps : List Packet) (k : ℕ) (p : DataPacket) → slice_get ps k ≡ Some (Data p) → has_some ps p.name ≡ true
unfolding has_some
some-there ps k p at = any-get (is_part_of p.name) ps k (Data p) at (name_eq-refl p.name)
