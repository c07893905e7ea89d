-- A text that is written piece by piece.
use Rattle.std.proofs.Common.{◌≡◌, ℕ, ◌+◌, ◌<◌, List, [], ◌++◌, length, drop, get_or, refl, sym, ap, ◌∙◌, append_assoc, subst, Option, Result, Ok, Err}
use Rattle.std.proofs.lemmas.List.{append-nil, drop_more}
use Rattle.std.specs.Prelude.{IsErr}
use Rattle.std.specs.List.{flat_map}
use Rattle.std.specs.Io.KnownBytes.{Appends}
use Rattle.lapi_base.proofs.Appended.{appended_twice, nothing_appended}
use Rattle.lapi_io.specs.Writes.{AppendsFront, Wrote}
use Rattle.lapi_views.specs.Progress.{Progress}

pub starts : (old : Option (List ℕ)) (text : List ℕ) → Progress old old text text
starts old text = record { front = []; appended = nothing_appended old; whole = refl }

-- after a piece
pub goes_on : (old now next : Option (List ℕ)) (text piece rest : List ℕ) → Progress old now text (piece ++ rest) → Appends now next piece → Progress old next text rest
goes_on old now next text piece rest p a = record {
  front = p.front ++ piece;
  appended = appended_twice old now next p.front piece p.appended a;
  whole = append_assoc p.front piece rest ∙ p.whole;
}

-- at a refusal
pub stops : (old now next : Option (List ℕ)) (text piece rest : List ℕ) → Progress old now text (piece ++ rest) → AppendsFront now next piece → AppendsFront old next text
stops old now next text piece rest p a = (
  p.front ++ a.0,
  a.1 ++ rest,
  sym p.whole ∙ ap (λ s. p.front ++ (s ++ rest)) a.2 ∙ ap (λ s. p.front ++ s) (append_assoc a.0 a.1 rest) ∙ sym (append_assoc p.front a.0 (a.1 ++ rest)),
  appended_twice old now next p.front a.0 p.appended a.3,
)

pub is_done : (old now : Option (List ℕ)) (text : List ℕ) → Progress old now text [] → Appends old now text
is_done old now text p = subst (λ s. Appends old now s) (sym (append-nil p.front) ∙ p.whole) p.appended

-- a refusal in the first text, and one in the second
pub stops_early : (old now : Option (List ℕ)) (a b : List ℕ) → AppendsFront old now a → AppendsFront old now (a ++ b)
stops_early old now a b f = (f.0, f.1 ++ b, ap (λ s. s ++ b) f.2 ∙ append_assoc f.0 f.1 b, f.3)

pub stops_later : (old now next : Option (List ℕ)) (a b : List ℕ) → Appends old now a → AppendsFront now next b → AppendsFront old next (a ++ b)
stops_later old now next a b h f = (a ++ f.0, f.1, ap (λ s. a ++ s) f.2 ∙ sym (append_assoc a f.0 f.1), appended_twice old now next a f.0 h f.3)

-- one text, and then another
pub then_wrote : {T E : Type 0} (old now next : Option (List ℕ)) (a b : List ℕ) (r : Result T E) → Appends old now a → Wrote now next b r → Wrote old next (a ++ b) r
then_wrote old now next a b (Ok x) h w = appended_twice old now next a b h w
then_wrote old now next a b (Err e) h w = stops_later old now next a b h w

-- a text for each item of a list: that of the next item, and those of the others
pub next_item : {X : Type 0} (f : X → List ℕ) (xs : List X) (i : ℕ) (d : X) → i < length xs → flat_map f (drop i xs) ≡ f (get_or xs i d) ++ flat_map f (drop (i + 1) xs)
next_item f xs i d h = ap (λ ys. flat_map f ys) (drop_more xs i d h)

pub item_written : {X : Type 0} (f : X → List ℕ) (xs : List X) (i : ℕ) (d : X) (old now next : Option (List ℕ)) (text : List ℕ)
    → i < length xs → Progress old now text (flat_map f (drop i xs)) → Appends now next (f (get_or xs i d)) → Progress old next text (flat_map f (drop (i + 1) xs))
item_written f xs i d old now next text h p a =
    goes_on old now next text (f (get_or xs i d)) (flat_map f (drop (i + 1) xs)) (subst (λ s. Progress old now text s) (next_item f xs i d h) p) a

pub item_stops : {X : Type 0} (f : X → List ℕ) (xs : List X) (i : ℕ) (d : X) (old now next : Option (List ℕ)) (text : List ℕ)
    → i < length xs → Progress old now text (flat_map f (drop i xs)) → AppendsFront now next (f (get_or xs i d)) → AppendsFront old next text
item_stops f xs i d old now next text h p a =
    stops old now next text (f (get_or xs i d)) (flat_map f (drop (i + 1) xs)) (subst (λ s. Progress old now text s) (next_item f xs i d h) p) a

-- what a refusal leaves behind
pub refused : {T E : Type 0} (old now : Option (List ℕ)) (text : List ℕ) (r : Result T E) → IsErr r → AppendsFront old now text → Wrote old now text r
refused old now text (Ok x) is f = absurd (cc)
refused old now text (Err e) is f = f
