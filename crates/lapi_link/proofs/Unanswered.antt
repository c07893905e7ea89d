-- What the answer to a header leaves as it is.
use Rattle.std.proofs.Common.{◌≡◌, ℕ, Bool, true, false, cond, Option, Some, None, is_some, IfSome, refl, sym, subst}
use Rattle.std.specs.Prelude.{option_map}
use Rattle.std.specs.Option.{unwrap_or}
use Rattle.lapi_base.specs.declared.message.MsgName.{MsgName}
use Rattle.lapi_base.specs.declared.head.Head.{Head}
use Rattle.lapi_reassembly.specs.Partial.{Gathered, nothing_of, is_whole, message}
use Rattle.lapi_reassembly.specs.Partials.{kept_of}
use Rattle.lapi_reassembly.specs.declared.message.Message.{Message}
use Rattle.lapi_link.specs.declared.arrival.Arrival.TheVariants.{First}
use Rattle.lapi_link.specs.Receiver.{kept_answer, unanswered, came}

pub there-unanswered : (o : Option Gathered) → is_some (option_map unanswered o) ≡ is_some o
there-unanswered None = refl
there-unanswered (Some g) = refl

pub or-unanswered : (o : Option Gathered) (d : Gathered) → unanswered (unwrap_or o d) ≡ unwrap_or (option_map unanswered o) (unanswered d)
or-unanswered None d = refl
or-unanswered (Some g) d = refl

pub kept-unanswered : (g : Gathered) → option_map unanswered (kept_of g) ≡ kept_of (unanswered g)
kept-unanswered g = by_test (is_whole g)
  where
    by_test : (b : Bool) → option_map unanswered (cond b None (Some g)) ≡ cond b None (Some (unanswered g))
    by_test true = refl
    by_test false = refl

-- what holds of it whatever was answered
pub if-unanswered : (P : Gathered → Type 0) → ((g : Gathered) → P (unanswered g) → P g) → (o q : Option Gathered) → option_map unanswered o ≡ q → IfSome q P → IfSome o P
if-unanswered P blind o q e h = by_cases o (subst (λ x. IfSome x P) (sym e) h)
  where
    by_cases : (x : Option Gathered) → IfSome (option_map unanswered x) P → IfSome x P
    by_cases None h = tt
    by_cases (Some g) h = blind g h

-- The answer itself.
pub answer-or : (o : Option Gathered) (unit : ℕ) (name : MsgName) (head : Head) (len : ℕ) → (unwrap_or o (nothing_of unit name head len)).out ≡ kept_answer o
answer-or None unit name head len = refl
answer-or (Some g) unit name head len = refl

-- it stays while the message is kept
pub answer-kept : (g : Gathered) → is_some (kept_of g) ≡ true → kept_answer (kept_of g) ≡ g.out
answer-kept g = by_test (is_whole g)
  where
    by_test : (b : Bool) → is_some (cond b None (Some g)) ≡ true → kept_answer (cond b None (Some g)) ≡ g.out
    by_test true h = absurd (cc)
    by_test false h = refl

-- a message whose first fragment came is kept
pub first-kept : (some : Bool) (g : Gathered) → came some (is_whole g) (message g) ≡ First → is_some (kept_of g) ≡ true
first-kept some g = by_test some (is_whole g) (message g)
  where
    by_test : (x b : Bool) (m : Message) → came x b m ≡ First → is_some (cond b None (Some g)) ≡ true
    by_test true true m h = absurd (cc)
    by_test false true m h = absurd (cc)
    by_test x false m h = refl
