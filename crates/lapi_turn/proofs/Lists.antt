-- Facts about lists of entries and the rights that they need.
use Rattle.std.proofs.Common.{◌≡◌, ◌≢◌, ◌⊎◌, ℕ, zero, suc, ◌<◌, ◌≤◌, max, Bool, true, false, List, [], ◌∷◌, ◌++◌, length, set, refl, sym, ap, ◌∙◌, subst, inl, inr, ⊎_elim, arith, append_assoc}
use Rattle.std.proofs.lemmas.List.{append-nil}
use Rattle.std.specs.Prelude.{bit_or}
use Rattle.std.specs.Int.{bit_at}
use Rattle.std.proofs.lemmas.Nat.Bits.{bit_at-lt, bit_at_or, bit_at-zero, bit_at_ones}
use mathlib.Core.Option.{some, some-injective, some-ne-none}
use lib.ListN.{get_elem?}
use Rattle.lapi_turn.specs.Entries.{Entry, NoneNeeds, Follows, AllBelow16, Grows, list_after}
use Rattle.lapi_turn.specs.TurnRule.{all_rights}

-- a bit is 0 where it cannot be 1
pub bit_off : (m r : ℕ) → (bit_at m r ≡ 1 → ⊥) → bit_at m r ≡ 0
bit_off m r no_one = let b : ℕ = bit_at m r in let small : b < 2 = bit_at-lt m r in let n : b ≢ 1 = no_one in omega arith

pub bit_apart : (m r : ℕ) → bit_at m r ≡ 0 → bit_at m r ≡ 1 → ⊥
bit_apart m r z o = let b : ℕ = bit_at m r in let z' : b ≡ 0 = z in let o' : b ≡ 1 = o in omega arith

pub none_append : (m : ℕ) (xs ys : List Entry) → NoneNeeds m xs → NoneNeeds m ys → NoneNeeds m (xs ++ ys)
none_append m [] ys a b = b
none_append m (x ∷ xs) ys a b = (a.0, none_append m xs ys a.1 b)

pub none_front : (m : ℕ) (xs ys : List Entry) → NoneNeeds m (xs ++ ys) → NoneNeeds m xs
none_front m [] ys a = tt
none_front m (x ∷ xs) ys a = (a.0, none_front m xs ys a.1)

pub none_back : (m : ℕ) (xs ys : List Entry) → NoneNeeds m (xs ++ ys) → NoneNeeds m ys
none_back m [] ys a = a
none_back m (x ∷ xs) ys a = none_back m xs ys a.1

pub none_fewer : (m n : ℕ) (xs : List Entry) → ((r : ℕ) → bit_at n r ≡ 1 → bit_at m r ≡ 1) → NoneNeeds m xs → NoneNeeds n xs
none_fewer m n [] fewer a = tt
none_fewer m n (x ∷ xs) fewer a = (bit_off n x.1 (λ o. bit_apart m x.1 a.0 (fewer x.1 o)), none_fewer m n xs fewer a.1)

pub none_both : (m n : ℕ) (xs : List Entry) → NoneNeeds m xs → NoneNeeds n xs → NoneNeeds (bit_or m n) xs
none_both m n [] a b = tt
none_both m n (x ∷ xs) a b = (bit_at_or m n x.1 ∙ ((λ i. max (a.0 i) (b.0 i)) ∙ refl), none_both m n xs a.1 b.1)

pub none_zero : (xs : List Entry) → NoneNeeds 0 xs
none_zero [] = tt
none_zero (x ∷ xs) = (bit_at-zero x.1, none_zero xs)

pub low_append : (xs ys : List Entry) → AllBelow16 xs → AllBelow16 ys → AllBelow16 (xs ++ ys)
low_append [] ys a b = b
low_append (x ∷ xs) ys a b = (a.0, low_append xs ys a.1 b)

pub low_back : (xs ys : List Entry) → AllBelow16 (xs ++ ys) → AllBelow16 ys
low_back [] ys a = a
low_back (x ∷ xs) ys a = low_back xs ys a.1

-- where all rights are one's own, nobody else made an entry
pub none_all : (xs : List Entry) → AllBelow16 xs → NoneNeeds all_rights xs → xs ≡ []
none_all [] low a = refl
none_all (x ∷ xs) low a = absurd (bit_apart all_rights x.1 a.0 (bit_at_ones 16 x.1 low.0))

-- of two beginnings of one list the shorter begins the longer
pub shorter : (a b x y : List Entry) → a ++ x ≡ b ++ y → length a ≤ length b → (z : List Entry) × (b ≡ a ++ z) × (x ≡ z ++ y)
shorter [] b x y e le = (b, refl, e)
shorter (p ∷ a) [] x y e le = absurd (omega arith)
shorter (p ∷ a) (q ∷ b) x y e le =
    let heads : p ≡ q = cc in
    let tails : a ++ x ≡ b ++ y = cc in
    let r = shorter a b x y tails (omega arith) in (r.0, (λ i. sym heads i ∷ r.1 i), r.2)

pub follows_self : (m : ℕ) (l : List Entry) → Follows l m l
follows_self m l = ([], sym (append-nil l), tt)

pub follows_more : (seen : List Entry) (m : ℕ) (l : List Entry) (e : Entry) → Follows seen m l → bit_at m e.1 ≡ 0 → Follows seen m (l ++ e ∷ [])
follows_more seen m l e f off = (f.0 ++ e ∷ [], ap (λ (k : List Entry). k ++ e ∷ []) f.1 ∙ append_assoc seen f.0 (e ∷ []), none_append m f.0 (e ∷ []) f.2 (off, tt))

pub follows_fewer : (seen : List Entry) (m n : ℕ) (l : List Entry) → ((r : ℕ) → bit_at n r ≡ 1 → bit_at m r ≡ 1) → Follows seen m l → Follows seen n l
follows_fewer seen m n l fewer f = (f.0, f.1, none_fewer m n f.0 fewer f.2)

-- two beginnings of one history: the longer follows the shorter
pub follows_longer : (a b : List Entry) (m n : ℕ) (l : List Entry) → Follows a m l → Follows b n l → length a ≤ length b → Follows a m b
follows_longer a b m n l f g le = let s = shorter a b f.0 g.0 (sym f.1 ∙ g.1) le in (s.0, s.1, none_front m s.0 g.0 (subst (NoneNeeds m) s.2 f.2))

-- and what comes after the longer needs no right of either
pub follows_both : (a b : List Entry) (m n : ℕ) (l : List Entry) → Follows a m l → Follows b n l → length a ≤ length b → Follows b (bit_or m n) l
follows_both a b m n l f g le = let s = shorter a b f.0 g.0 (sym f.1 ∙ g.1) le in (g.0, g.1, none_both m n g.0 (none_back m s.0 g.0 (subst (NoneNeeds m) s.2 f.2)) g.2)

pub follows_both' : (a b : List Entry) (m n : ℕ) (l : List Entry) → Follows a m l → Follows b n l → length a ≤ length b → Follows b (bit_or n m) l
follows_both' a b m n l f g le = let s = shorter a b f.0 g.0 (sym f.1 ∙ g.1) le in (g.0, g.1, none_both n m g.0 g.2 (none_back m s.0 g.0 (subst (NoneNeeds m) s.2 f.2)))

module _ {A : Type 0} where
  pub set_at : (l : List A) (i : ℕ) (a b : A) → get_elem? l i ≡ some b → get_elem? (set l i a) i ≡ some a
  set_at [] i a b e = absurd (some-ne-none b (sym e))
  set_at (x ∷ xs) zero a b e = refl
  set_at (x ∷ xs) (suc i) a b e = set_at xs i a b e

  pub at_end : (l : List A) (a b : A) (j : ℕ) → get_elem? (l ++ a ∷ []) j ≡ some b → (get_elem? l j ≡ some b) ⊎ ((j ≡ length l) × (a ≡ b))
  at_end [] a b zero e = inr (refl, some-injective a b e)
  at_end [] a b (suc j) e = absurd (some-ne-none b (sym e))
  at_end (x ∷ xs) a b zero e = inl e
  at_end (x ∷ xs) a b (suc j) e = ⊎_elim (λ t. inl t) (λ t. inr (ap suc t.0, t.1)) (at_end xs a b j e)

  pub one_at : (l : List A) (i : ℕ) (a b : A) → get_elem? l i ≡ some a → get_elem? l i ≡ some b → a ≡ b
  one_at l i a b e e' = some-injective a b (sym e ∙ e')

pub grows_after : (b : Bool) (rights : ℕ) (base l : List Entry) (e : Entry) → l ≡ list_after b base e → bit_at rights e.1 ≡ 1 → Grows b rights base l
grows_after true rights base l e is one = (e, is, one)
grows_after false rights base l e is one = is
