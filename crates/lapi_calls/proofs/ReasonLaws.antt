-- The reasons by where the pieces lie are those of the statement.
use Rattle.std.proofs.Common.{◌≡◌, ℕ, suc, ◌+◌, ◌*◌, ◌%◌, ◌==◌, Bool, ◌&&◌, ◌||◌, not, List, [], ◌∷◌, ◌++◌, length, map, refl, sym, ap, ◌∙◌, arith}
use Rattle.std.specs.Prelude.{nat_le, nat_lt, option_to_list}
use Rattle.std.specs.List.{list_any, sum, zip}
use Rattle.std.proofs.lemmas.List.{map-append, length-map}
use Rattle.std.proofs.lemmas.List.Folds.{list_any-append}
use Rattle.lapi_base.specs.declared.address.Addr.{Addr}
use Rattle.lapi_base.specs.declared.address.Addr.TheVariants.{Plain, Table}
use Rattle.lapi_base.specs.declared.piece.Piece.{Piece}
use Rattle.lapi_base.specs.declared.refusal.Refusal.TheVariants.{BadTask, BadTargetRange, BadOriginRange, BadCounter, TooLong, NoTable, BadHandler, BadUserHeader, VecCount, VecLength, StrideBelowBlock, Misaligned}
use Rattle.lapi_base.specs.declared.rule.Rules.{Rules}
use Rattle.lapi_base.specs.declared.script.Script.{Script}
use Rattle.lapi_base.specs.declared.statement.Statement.{Statement}
use Rattle.lapi_base.specs.declared.statement.Statement.TheVariants.{Putv, Getv}
use Rattle.lapi_base.specs.declared.vector.Vector.TheVariants.{Stride}
use Rattle.lapi_base.specs.Record.Below.{below}
use Rattle.lapi_base.specs.Packet.Layout.{longest_of}
use Rattle.lapi_base.specs.Record.Operations.{numbers_below, address, entry, shifted, pieces_of, statement, target, target_pieces, origin_pieces, total, is_rmw, own_counter, tgt_counter, org_counter, cmpl_counter, target_of}
use Rattle.lapi_base.specs.Record.Refusals.{first_reason, refusal_by, option_any, counters_of, too_long, is_vector, stride_below_block}
use Rattle.lapi_calls.specs.declared.reach.Reach.{Reach}
use Rattle.lapi_calls.specs.Entries.{is_told, address_by}
use Rattle.lapi_calls.specs.Reaches.{total_of, reach_of, stride_reaches}
use Rattle.lapi_calls.specs.Limits.{limits_of}
use Rattle.lapi_calls.specs.Reasons.{reason_tests, long_by, handler_missing, header_is_bad, reach_tests}

-- one piece more of a stride
pub stride-more : (known : Bool) (at block stride k : ℕ) → stride_reaches known at block stride (k + 1) ≡ stride_reaches known at block stride k ++ record { known = known; at = at + k * stride; len = block } ∷ []
unfolding numbers_below below
stride-more known at block stride k =
    let e : k + 1 ≡ suc k = omega arith in
    ap (stride_reaches known at block stride) e ∙ map-append (λ k. record { known = known; at = at + k * stride; len = block }) (numbers_below k) (k ∷ [])

pub stride-none : (known : Bool) (at block stride : ℕ) → stride_reaches known at block stride 0 ≡ []
unfolding numbers_below below
stride-none known at block stride = refl

pub any-mapped : {X Y : Type 0} (f : Y → Bool) (h : X → Y) (xs : List X) → list_any f (map h xs) ≡ list_any (λ x. f (h x)) xs
any-mapped f h [] = refl
any-mapped f h (x ∷ xs) = ap (λ b. f (h x) || b) (any-mapped f h xs)

zip-mapped : {X Y : Type 0} (f : Y × Y → Bool) (h : X → Y) (xs ys : List X) → list_any f (zip (map h xs) (map h ys)) ≡ list_any (λ (p : X × X). f (h p.0, h p.1)) (zip xs ys)
zip-mapped f h [] ys = refl
zip-mapped f h (x ∷ xs) [] = refl
zip-mapped f h (x ∷ xs) (y ∷ ys) = ap (λ b. f (h x, h y) || b) (zip-mapped f h xs ys)

lens-mapped : (known : ℕ → Bool) (given : ℕ → ℕ → ℕ) (d : ℕ) (ps : List Piece) → map {A = Reach} {B = ℕ} (λ r. r.len) (map (reach_of known given d) ps) ≡ map {A = Piece} {B = ℕ} (λ p. p.len) ps
lens-mapped known given d [] = refl
lens-mapped known given d (p ∷ ps) = ap (λ ns. p.len ∷ ns) (lens-mapped known given d ps)

pub total-mapped : (known : ℕ → Bool) (given : ℕ → ℕ → ℕ) (d : ℕ) (ps : List Piece) → total_of (map (reach_of known given d) ps) ≡ total ps
total-mapped known given d ps = ap sum (lens-mapped known given d ps)

-- all counters that a statement names
pub counters-any : (f : ℕ → Bool) (s : Statement) → (((list_any f (option_to_list (own_counter s)) || list_any f (option_to_list (tgt_counter s))) || list_any f (option_to_list (org_counter s))) || list_any f (option_to_list (cmpl_counter s))) ≡ list_any f (counters_of s)
counters-any f s =
    let a = list_any-append f (option_to_list (own_counter s)) (option_to_list (tgt_counter s)) in
    let b = list_any-append f (option_to_list (own_counter s) ++ option_to_list (tgt_counter s)) (option_to_list (org_counter s)) in
    let c = list_any-append f ((option_to_list (own_counter s) ++ option_to_list (tgt_counter s)) ++ option_to_list (org_counter s)) (option_to_list (cmpl_counter s)) in
    sym (c ∙ ap (λ x. x || list_any f (option_to_list (cmpl_counter s))) (b ∙ ap (λ x. x || list_any f (option_to_list (org_counter s))) a))

-- a shift changes nothing of what is known
told-shifted : (known : ℕ → Bool) (at : Addr) (y : ℕ) → is_told known (shifted at y) ≡ is_told known at
told-shifted known (Plain x) y = refl
told-shifted known (Table round offset) y = refl

module _ (known : ℕ → Bool) (given : ℕ → ℕ → ℕ) (d : ℕ) where
  -- a stride's pieces lie where the vector's do
  shifted-address : (at : Addr) (y : ℕ) → address_by given d (shifted at y) ≡ address_by given d at + y
  shifted-address (Plain x) y = refl
  shifted-address (Table round offset) y = omega arith

  blocks : (at : Addr) (block stride : ℕ) (ks : List ℕ) → map {A = ℕ} {B = Reach} (λ k. record { known = is_told known at; at = address_by given d at + k * stride; len = block }) ks ≡ map (reach_of known given d) (map (λ k. record { at = shifted at (k * stride); len = block }) ks)
  blocks at block stride [] = refl
  blocks at block stride (k ∷ ks) = λ i. record { known = sym (told-shifted known at (k * stride)) i; at = sym (shifted-address at (k * stride)) i; len = block } ∷ blocks at block stride ks i

  pub strides-are : (at : Addr) (block stride count : ℕ) → stride_reaches (is_told known at) (address_by given d at) block stride count ≡ map (reach_of known given d) (pieces_of (Stride at block stride count))
  unfolding pieces_of
  strides-are at block stride count = blocks at block stride (numbers_below count)

  pub long-is : (script : Script) (headers : ℕ) (s : Statement) → long_by (limits_of script headers) (map (reach_of known given d) (target_pieces s)) (map (reach_of known given d) (origin_pieces s)) s ≡ too_long script s
  long-is script headers (Putv t to from tgt org cmpl) = λ k. nat_lt (longest_of script) (total-mapped known given d (pieces_of to) k) || nat_lt (longest_of script) (total-mapped known given d (pieces_of from) k)
  long-is script headers (Getv t from to tgt org) = λ k. nat_lt (longest_of script) (total-mapped known given d (pieces_of from) k) || nat_lt (longest_of script) (total-mapped known given d (pieces_of to) k)
  long-is script headers _ = refl

module _ (script : Script) (rules : Rules) (known : ℕ → Bool) (d : ℕ) where
  -- the addresses by the entries of the script are the script's
  pub address-is : (at : Addr) → address_by (entry script) d at ≡ address script d at
  unfolding address
  address-is (Plain x) = refl
  address-is (Table round offset) = refl

  pub tests-are : (s : Statement) → reach_tests (limits_of script (length rules.headers)) (map (reach_of known (entry script) d) (target_pieces s)) (map (reach_of known (entry script) d) (origin_pieces s)) s ≡ reason_tests script rules (is_told known) d s
  unfolding address
  tests-are s =
      let h = reach_of known (entry script) d in
      let to = target_pieces s in
      let from = origin_pieces s in
      let outside = any-mapped (λ (r : Reach). r.known && not (nat_le (r.at + r.len) script.memory)) h to in
      let beyond = any-mapped (λ (r : Reach). not (nat_le (r.at + r.len) script.memory)) h from in
      let unknown = any-mapped (λ (r : Reach). not r.known) h to in
      let counts : (length (map h to) == length (map h from)) ≡ (length to == length from) = λ k. length-map to h k == length-map from h k in
      let differs = zip-mapped (λ (pq : Reach × Reach). not (pq.0.len == pq.1.len)) h to from in
      let odd-to = any-mapped (λ (r : Reach). not (r.at % 4 == 0)) h to in
      let odd-from = any-mapped (λ (r : Reach). not (r.at % 4 == 0)) h from in
      λ k.
      (option_any (λ t. not (nat_lt t script.tasks)) (target_of s), BadTask)
      ∷ (outside k, BadTargetRange)
      ∷ (beyond k, BadOriginRange)
      ∷ (list_any (λ c. not (nat_lt c script.counters)) (counters_of s), BadCounter)
      ∷ (long-is known (entry script) d script (length rules.headers) s k, TooLong)
      ∷ (unknown k, NoTable)
      ∷ (handler_missing (length rules.headers) s, BadHandler)
      ∷ (header_is_bad s, BadUserHeader)
      ∷ (is_vector s && not (counts k), VecCount)
      ∷ (is_vector s && differs k, VecLength)
      ∷ (stride_below_block s, StrideBelowBlock)
      ∷ (is_rmw s && (odd-to k || odd-from k), Misaligned)
      ∷ []

pub reason-is : (script : Script) (rules : Rules) (known : Addr → Bool) (a i : ℕ) → refusal_by script rules known a i ≡ first_reason (reason_tests script rules known (target script a i) (statement script a i))
unfolding refusal_by
reason-is script rules known a i = refl
