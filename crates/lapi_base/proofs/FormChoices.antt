-- What follows where a form goes on by a test.
use Rattle.std.proofs.Common.{◌≡◌, ℕ, Bool, true, false, cond, List, refl}
use Rattle.lapi_base.specs.Packet.Format.{Format}
use Rattle.lapi_base.proofs.FormLaws.{AtMost, Written, Always}

pub at_most_if : {A : Type 0} (n : ℕ) (b : Bool) (f g : Format A) → AtMost n f → AtMost n g → AtMost n (cond b f g)
at_most_if n true f g h k = h
at_most_if n false f g h k = k

pub written_if : {A : Type 0} (b : Bool) (f g : Format A) (front : List ℕ) (written : A → List ℕ) → (b ≡ true → Written f front written) → (b ≡ false → Written g front written) → Written (cond b f g) front written
written_if true f g front written h k = h refl
written_if false f g front written h k = k refl

pub always_if : {A : Type 0} (P : A → Type 0) (b : Bool) (f g : Format A) → (b ≡ true → Always P f) → (b ≡ false → Always P g) → Always P (cond b f g)
always_if P true f g h k = h refl
always_if P false f g h k = k refl
