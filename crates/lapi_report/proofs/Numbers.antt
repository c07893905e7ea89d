-- A text for each number below a bound.
use Rattle.std.proofs.Common.{ℕ, ◌+◌, ◌<◌, ◌≤◌, List, length, drop, sym, subst, Option, arith}
use Rattle.std.proofs.lemmas.List.{drop_all}
use Rattle.std.specs.List.{flat_map}
use Rattle.std.specs.Io.KnownBytes.{Appends}
use Rattle.lapi_base.specs.Record.Operations.{numbers_below}
use Rattle.lapi_base.proofs.UptoLaws.{numbers_below-length, upto_at}
use Rattle.lapi_io.specs.Writes.{AppendsFront}
use Rattle.lapi_report.specs.SinkWrites.{Progress}
use Rattle.lapi_report.proofs.Progress.{item_written, item_stops, is_done}

below_length : (n i : ℕ) → i < n → i < length (numbers_below n)
below_length n i h = let e = numbers_below-length n in omega (arith, e)

pub number_written : (f : ℕ → List ℕ) (n i : ℕ) (old now next : Option (List ℕ)) (text : List ℕ)
    → i < n → Progress old now text (flat_map f (drop i (numbers_below n))) → Appends now next (f i) → Progress old next text (flat_map f (drop (i + 1) (numbers_below n)))
number_written f n i old now next text h p a =
    item_written f (numbers_below n) i 0 old now next text (below_length n i h) p (subst (λ k. Appends now next (f k)) (sym (upto_at n i 0 h)) a)

pub number_stops : (f : ℕ → List ℕ) (n i : ℕ) (old now next : Option (List ℕ)) (text : List ℕ)
    → i < n → Progress old now text (flat_map f (drop i (numbers_below n))) → AppendsFront now next (f i) → AppendsFront old next text
number_stops f n i old now next text h p a =
    item_stops f (numbers_below n) i 0 old now next text (below_length n i h) p (subst (λ k. AppendsFront now next (f k)) (sym (upto_at n i 0 h)) a)

pub numbers_done : (f : ℕ → List ℕ) (n i : ℕ) (old now : Option (List ℕ)) (text : List ℕ) → n ≤ i → Progress old now text (flat_map f (drop i (numbers_below n))) → Appends old now text
numbers_done f n i old now text h p =
    is_done old now text (subst (λ xs. Progress old now text (flat_map f xs)) (drop_all i (numbers_below n) (let e = numbers_below-length n in omega (arith, e))) p)
