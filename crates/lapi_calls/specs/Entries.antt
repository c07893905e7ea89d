-- What is known of the addresses that tasks gave in their rounds.
use Rattle.std.specs.Prelude.{◌≡◌, ℕ, ◌+◌, Bool, true}
use Rattle.lapi_base.specs.declared.address.Addr.{Addr}
use Rattle.lapi_base.specs.declared.address.Addr.TheVariants.{Plain, Table}
use Rattle.lapi_base.specs.declared.script.Script.{Script}
use Rattle.lapi_base.specs.Record.Operations.{entry}

-- whether an address can be told, by the rounds that are known
abbrev pub is_told : (known : ℕ → Bool) → Addr → Bool
is_told known (Plain x) = true
is_told known (Table round offset) = known round

-- the address at task d, by what each task gave in each round
abbrev pub address_by : (given : ℕ → ℕ → ℕ) → (d : ℕ) → Addr → ℕ
address_by given d (Plain x) = x
address_by given d (Table round offset) = given round d + offset

-- what is known is what the script's tasks gave
abbrev pub AreGiven : Script → (known : ℕ → Bool) → (given : ℕ → ℕ → ℕ) → Type 0
AreGiven script known given = (round d : ℕ) → known round ≡ true → given round d ≡ entry script round d
