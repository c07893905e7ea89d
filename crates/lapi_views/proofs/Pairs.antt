-- A text for each pair of two lists.
use Rattle.std.proofs.Common.{◌≡◌, ℕ, ◌+◌, ◌<◌, min, List, length, drop, get_or, subst, Option, arith}
use Rattle.std.proofs.lemmas.List.{drop_all}
use Rattle.std.proofs.lemmas.Slice.Zip.{get_or-zip, length-zip}
use Rattle.std.specs.List.{flat_map, zip}
use Rattle.std.specs.Io.KnownBytes.{Appends}
use Rattle.lapi_io.specs.Writes.{AppendsFront}
use Rattle.lapi_views.specs.Progress.{Progress}
use Rattle.lapi_views.proofs.Progress.{item_written, item_stops, is_done}

module _ {X Y : Type 0} (f : X × Y → List ℕ) (xs : List X) (ys : List Y) (i : ℕ) where
  within : i < length xs → i < length ys → i < length (zip xs ys)
  within a b = let e = length-zip xs ys in omega (arith, e)

  pair_at : (x : X) (y : Y) → i < length xs → i < length ys → x ≡ get_or xs i x → y ≡ get_or ys i y → (x, y) ≡ get_or (zip xs ys) i (x, y)
  pair_at x y a b is also = cc (get_or-zip xs ys i (x, y) a b)

  pub pair_written : (x : X) (y : Y) (old now next : Option (List ℕ)) (text : List ℕ)
      → i < length xs → i < length ys → x ≡ get_or xs i x → y ≡ get_or ys i y
      → Progress old now text (flat_map f (drop i (zip xs ys))) → Appends now next (f (x, y)) → Progress old next text (flat_map f (drop (i + 1) (zip xs ys)))
  pair_written x y old now next text a b is also p w =
      item_written f (zip xs ys) i (x, y) old now next text (within a b) p (subst (λ z. Appends now next (f z)) (pair_at x y a b is also) w)

  pub pair_stops : (x : X) (y : Y) (old now next : Option (List ℕ)) (text : List ℕ)
      → i < length xs → i < length ys → x ≡ get_or xs i x → y ≡ get_or ys i y
      → Progress old now text (flat_map f (drop i (zip xs ys))) → AppendsFront now next (f (x, y)) → AppendsFront old next text
  pair_stops x y old now next text a b is also p w =
      item_stops f (zip xs ys) i (x, y) old now next text (within a b) p (subst (λ z. AppendsFront now next (f z)) (pair_at x y a b is also) w)

  pub pairs_done : (old now : Option (List ℕ)) (text : List ℕ) → i ≡ min (length xs) (length ys) → Progress old now text (flat_map f (drop i (zip xs ys))) → Appends old now text
  pairs_done old now text e p =
      is_done old now text (subst (λ zs. Progress old now text (flat_map f zs)) (drop_all i (zip xs ys) (let l = length-zip xs ys in omega (arith, l, e))) p)
