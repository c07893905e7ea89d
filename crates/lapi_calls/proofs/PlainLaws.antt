-- What isn't known of an address decides nothing.
use Rattle.std.proofs.Common.{◌≡◌, ℕ, ◌+◌, ◌*◌, Bool, true, false, ◌&&◌, ◌||◌, not, List, [], ◌∷◌, map, refl, sym, ap, ◌∙◌, Option, ⊎_elim}
use Rattle.std.specs.Prelude.{nat_le, nat_lt}
use Rattle.std.specs.List.{AllByRecursion, list_any}
use Rattle.std.proofs.lemmas.Bool.{cases_Bool, or_parts, not-false}
use Rattle.lapi_base.specs.declared.address.Addr.{Addr}
use Rattle.lapi_base.specs.declared.address.Addr.TheVariants.{Plain, Table}
use Rattle.lapi_base.specs.declared.piece.Piece.{Piece}
use Rattle.lapi_base.specs.declared.vector.Vector as vectors
use Rattle.lapi_base.specs.declared.vector.Vector.TheVariants.{Stride}
use Rattle.lapi_base.specs.declared.refusal.Refusal.{Refusal}
use Rattle.lapi_base.specs.declared.refusal.Refusal.TheVariants.{BadTask, BadTargetRange, BadOriginRange, BadCounter, TooLong, NoTable}
use Rattle.lapi_base.specs.declared.script.Script.{Script}
use Rattle.lapi_base.specs.declared.statement.Statement.{Statement}
use Rattle.lapi_base.specs.declared.statement.Statement.TheVariants.{Store, Put, Get, Putv, Getv, Rmw, Am}
use Rattle.lapi_base.specs.Record.Operations.{numbers_below, entry, shifted, pieces_of, target_pieces, origin_pieces, target_of}
use Rattle.lapi_base.specs.Record.Refusals.{option_any, counters_of, first_reason}
use Rattle.lapi_base.specs.Record.Valid.{IsPlain, AtPlain, ValidStatement}
use Rattle.lapi_calls.specs.declared.reach.Reach.{Reach}
use Rattle.lapi_calls.specs.Entries.{is_told, address_by, AreGiven}
use Rattle.lapi_calls.specs.Reaches.{reach_of}
use Rattle.lapi_calls.specs.Limits.{limits_of}
use Rattle.lapi_calls.specs.Reasons.{reach_tests, late_tests, long_by}
use Rattle.lapi_calls.proofs.ReasonLaws.{any-mapped, long-is}

-- the first reason, by its tests up to NoTable and those after it
abbrev reason_by : (a b c d e f : Bool) → List (Bool × Refusal) → Option Refusal
reason_by a b c d e f late = first_reason ((a, BadTask) ∷ (b, BadTargetRange) ∷ (c, BadOriginRange) ∷ (d, BadCounter) ∷ (e, TooLong) ∷ (f, NoTable) ∷ late)

-- after a reason that applies no other counts
stops : (a b c d e f : Bool) (xs ys : List (Bool × Refusal)) → f ≡ true → reason_by a b c d e f xs ≡ reason_by a b c d e f ys
unfolding first_reason
stops a b c d e f xs ys h = (λ k. reason_by a b c d e (h k) xs) ∙ sym (λ k. reason_by a b c d e (h k) ys)

-- the pieces at the origin are at plain addresses
stride-plain : (at : Addr) (block stride : ℕ) (ks : List ℕ) → IsPlain at → AllByRecursion (λ (p : Piece). IsPlain p.at) (map (λ k. record { at = shifted at (k * stride); len = block }) ks)
stride-plain at block stride [] h = tt
stride-plain at block stride (k ∷ ks) h = (plain at (k * stride) h, stride-plain at block stride ks h)
  where
    plain : (at : Addr) (y : ℕ) → IsPlain at → IsPlain (shifted at y)
    plain (Plain x) y h = tt
    plain (Table round offset) y h = h

pub vector-plain : (v : vectors.Vector) → AtPlain v → AllByRecursion (λ (p : Piece). IsPlain p.at) (pieces_of v)
unfolding pieces_of
vector-plain (vectors.Vector.List ps) h = h
vector-plain (Stride base block stride count) h = stride-plain base block stride (numbers_below count) h

pub origins-plain : (s : Statement) → ValidStatement s → AllByRecursion (λ (p : Piece). IsPlain p.at) (origin_pieces s)
origins-plain (Putv target to from tgt org cmpl) h = vector-plain from h.3
origins-plain (Getv target from to tgt org) h = vector-plain to h.3
origins-plain (Store at bytes) h = (tt, tt)
origins-plain (Put target to from len tgt org cmpl) h = (tt, tt)
origins-plain (Get target from to len tgt org) h = (tt, tt)
origins-plain (Rmw target op at in1 in2 prev org) h = (tt, tt)
origins-plain (Am target handler header from len tgt org cmpl) h = (tt, tt)
origins-plain (Statement.Addr at) h = (tt, tt)
origins-plain _ h = tt

module _ (script : Script) (known : ℕ → Bool) (given : ℕ → ℕ → ℕ) (same : AreGiven script known given) (d : ℕ) where
  abbrev here : Piece → Reach
  here = reach_of known given d

  abbrev true_one : Piece → Reach
  true_one = reach_of known (entry script) d

  pub same-at : (at : Addr) → is_told known at ≡ true → address_by given d at ≡ address_by (entry script) d at
  same-at (Plain x) h = refl
  same-at (Table round offset) h = ap (λ n. n + offset) (same round d h)

  same-one : (p : Piece) → is_told known p.at ≡ true → here p ≡ true_one p
  same-one p h = λ k. record { known = is_told known p.at; at = same-at p.at h k; len = p.len }

  told-same : (ps : List Piece) → list_any (λ (p : Piece). not (is_told known p.at)) ps ≡ false → map here ps ≡ map true_one ps
  told-same [] h = refl
  told-same (p ∷ ps) h =
      let parts = or_parts (not (is_told known p.at)) (list_any (λ (p : Piece). not (is_told known p.at)) ps) h in
      λ k. same-one p (not-false (is_told known p.at) parts.0) k ∷ told-same ps parts.1 k

  plain-same : (ps : List Piece) → AllByRecursion (λ (p : Piece). IsPlain p.at) ps → map here ps ≡ map true_one ps
  plain-same [] h = refl
  plain-same (p ∷ ps) h = λ k. same-one p (plain p.at h.0) k ∷ plain-same ps h.1 k
    where
      plain : (at : Addr) → IsPlain at → is_told known at ≡ true
      plain (Plain x) h = refl
      plain (Table round offset) h = absurd h

  origins-same : (s : Statement) → ValidStatement s → map here (origin_pieces s) ≡ map true_one (origin_pieces s)
  origins-same s valid = plain-same (origin_pieces s) (origins-plain s valid)

  same-outside : (size : ℕ) (p : Piece) → (is_told known p.at && not (nat_le (address_by given d p.at + p.len) size)) ≡ (is_told known p.at && not (nat_le (address_by (entry script) d p.at + p.len) size))
  same-outside size p =
      ⊎_elim
      (λ (h : is_told known p.at ≡ true). λ k. is_told known p.at && not (nat_le (same-at p.at h k + p.len) size))
      (λ (h : is_told known p.at ≡ false).
      (λ k. h k && not (nat_le (address_by given d p.at + p.len) size)) ∙ sym (λ k. h k && not (nat_le (address_by (entry script) d p.at + p.len) size)))
      (cases_Bool (is_told known p.at))

  outside-same : (size : ℕ) (ps : List Piece) → list_any (λ (r : Reach). r.known && not (nat_le (r.at + r.len) size)) (map here ps) ≡ list_any (λ (r : Reach). r.known && not (nat_le (r.at + r.len) size)) (map true_one ps)
  outside-same size [] = refl
  outside-same size (p ∷ ps) = λ k. same-outside size p k || outside-same size ps k

  -- so the reason is that by the script's entries
  pub reason-same : (headers : ℕ) (s : Statement) → ValidStatement s → first_reason (reach_tests (limits_of script headers) (map here (target_pieces s)) (map here (origin_pieces s)) s) ≡ first_reason (reach_tests (limits_of script headers) (map true_one (target_pieces s)) (map true_one (origin_pieces s)) s)
  reason-same headers s valid =
      let to = target_pieces s in
      let from = origins-same s valid in
      let unknown = list_any (λ (p : Piece). not (is_told known p.at)) to in
      ⊎_elim
      (λ (h : unknown ≡ true). some-unknown h)
      (λ (h : unknown ≡ false). λ k. first_reason (reach_tests (limits_of script headers) (told-same to h k) (from k) s))
      (cases_Bool unknown)
    where
      some-unknown : list_any (λ (p : Piece). not (is_told known p.at)) (target_pieces s) ≡ true → first_reason (reach_tests (limits_of script headers) (map here (target_pieces s)) (map here (origin_pieces s)) s) ≡ first_reason (reach_tests (limits_of script headers) (map true_one (target_pieces s)) (map true_one (origin_pieces s)) s)
      some-unknown h =
          let to = target_pieces s in
          let from = origins-same s valid in
          let outside = outside-same script.memory to in
          let long = long-is known given d script headers s ∙ sym (long-is known (entry script) d script headers s) in
          let none = λ (r : Reach). not r.known in
          let one = any-mapped none here to in
          let other = any-mapped none true_one to in
          let lacks = option_any (λ t. not (nat_lt t script.tasks)) (target_of s) in
          let beyond = λ (rs : List Reach). list_any (λ (r : Reach). not (nat_le (r.at + r.len) script.memory)) rs in
          let misses = list_any (λ c. not (nat_lt c script.counters)) (counters_of s) in
          let late = late_tests headers (map here to) (map here (origin_pieces s)) s in
          let true_late = late_tests headers (map true_one to) (map true_one (origin_pieces s)) s in
          let out = list_any (λ (r : Reach). r.known && not (nat_le (r.at + r.len) script.memory)) (map true_one to) in
          let size = long_by (limits_of script headers) (map true_one to) (map true_one (origin_pieces s)) s in
          (λ k. reason_by lacks (outside k) (beyond (from k)) misses (long k) (list_any none (map here to)) late)
          ∙ stops lacks out (beyond (map true_one (origin_pieces s))) misses size (list_any none (map here to)) late true_late (one ∙ h)
          ∙ (λ k. reason_by lacks out (beyond (map true_one (origin_pieces s))) misses size ((one ∙ sym other) k) true_late)
