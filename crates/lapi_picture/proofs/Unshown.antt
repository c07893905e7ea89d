-- What is drawn at rows that are not shown: nothing.
use Rattle.std.proofs.Common.{◌≡◌, ℕ, List, [], false, ap, refl, Some, None}
use Rattle.std.specs.Prelude.{nat_lt, nat_le, cond, Bool, true, ◌&&◌, Option}
use Rattle.lapi_picture.specs.declared.page.Page.{Page}
use Rattle.lapi_picture.specs.Chart.{arrow, cross}
use Rattle.lapi_picture.specs.Shapes.{is_shown, line_shape, middle, side}

and_false : (p q : Bool) → q ≡ false → (p && q) ≡ false
and_false true q e = e
and_false false q e = refl

-- an arrow to a row above those
pub arrow_above : (page : Page) (class : List ℕ) (a b : ℕ) (sent : Option ℕ) (j : ℕ) → nat_le page.first j ≡ false → arrow page class a b sent j ≡ []
unfolding arrow
arrow_above page class a b None j h = refl
arrow_above page class a b (Some i) j h =
    ap (λ shown. cond shown (line_shape class (side a b) (middle page i) (side b a) (middle page j)) []) (and_false (nat_lt i page.last) (nat_le page.first j) h)

-- and a cross
pub cross_hidden : (page : Page) (a b : ℕ) (delivered : Option ℕ) (j : ℕ) → is_shown page j j ≡ false → cross page a b delivered j ≡ []
unfolding cross
cross_hidden page a b None j h = rw h refl
cross_hidden page a b (Some i) j h = refl
