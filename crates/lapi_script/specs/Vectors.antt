-- Vectors as they are held while a line is read.
use Rattle.std.specs.Prelude.{◌≡◌, ℕ, false, List, Option, Some, None}
use Rattle.lapi_base.specs.declared.address.Addr.{Addr}
use Rattle.lapi_base.specs.declared.address.Addr.TheVariants.{Plain}
use Rattle.lapi_base.specs.declared.vector.Vector.{Vector}
use Rattle.lapi_base.specs.declared.vector.Vector.TheVariants.{Stride}
use Rattle.lapi_base.specs.Input.Tokens.{plain_address_of, address_of, vector_of}
use Rattle.lapi_base.specs.Input.Reading.{has_few_pieces}
use Rattle.lapi_script.specs.declared.held_vector.HeldVector.{HeldVector}
use Rattle.lapi_script.specs.declared.held_vector.HeldVector.TheVariants.{Held, TooManyPieces}
use Rattle.lapi_script.specs.declared.pieces.Side.{Side}
use Rattle.lapi_script.specs.declared.pieces.Side.TheVariants.{Origin, Target}

-- how an address is read at either side
abbrev pub address_by : Side → List ℕ → Option Addr
address_by Origin = plain_address_of
address_by Target = address_of

-- the vector that a word spells; of a word that spells none nothing is said
abbrev pub vector_or : Option Vector → Vector
vector_or None = Stride (Plain 0) 0 0 0
vector_or (Some vector) = vector

abbrev pub spelled : Side → List ℕ → Vector
spelled side word = vector_or (vector_of (address_by side) word)

-- the vector; or that it has more pieces than one may have
abbrev pub HoldsVector : HeldVector → Vector → Type 0
HoldsVector (Held held) vector = vector ≡ held
HoldsVector TooManyPieces vector = has_few_pieces vector ≡ false

-- what is held of a vector that is read, if one is
abbrev pub HoldsListed : Option HeldVector → Option Vector → Type 0
HoldsListed None read = read ≡ None
HoldsListed (Some held) read = (vector : Vector) × (read ≡ Some vector) × HoldsVector held vector
