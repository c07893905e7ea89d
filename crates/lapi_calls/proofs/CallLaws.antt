-- What a call that isn't refused keeps, and its reason by what the task knows.
use Rattle.std.proofs.Common.{◌≡◌, ℕ, ◌+◌, ◌^◌, ◌<◌, ◌≤◌, Bool, true, false, ◌&&◌, not, List, [], ◌∷◌, length, map, refl, sym, ap, ◌∙◌, None, arith}
use Rattle.std.specs.Prelude.{nat_le, nat_lt}
use Rattle.std.specs.List.{AllByRecursion, list_any}
use Rattle.std.proofs.lemmas.Bool.{or_parts, not-false, leb-true, ltb-false}
use Rattle.std.proofs.lemmas.Option.{none-some}
use Rattle.lapi_base.specs.declared.address.Addr.{Addr}
use Rattle.lapi_base.specs.declared.address.Addr.TheVariants.{Plain, Table}
use Rattle.lapi_base.specs.declared.piece.Piece.{Piece}
use Rattle.lapi_base.specs.declared.refusal.Refusal.{Refusal}
use Rattle.lapi_base.specs.declared.script.Script.{Script}
use Rattle.lapi_base.specs.declared.rule.Rules.{Rules}
use Rattle.lapi_base.specs.declared.event.Event.{Event}
use Rattle.lapi_base.specs.declared.statement.Statement.{Statement}
use Rattle.lapi_base.specs.declared.statement.Statement.TheVariants.{Put, Putv, Am}
use Rattle.lapi_base.specs.declared.message.Leg.TheVariants.{Go}
use Rattle.lapi_base.specs.Record.Operations.{pieces_of, target_pieces, origin_pieces, length_by}
use Rattle.lapi_base.specs.Record.Handlers.{user_header}
use Rattle.lapi_base.specs.Record.Refusals.{first_reason, refusal_by, refusal_of, is_known}
use Rattle.lapi_base.specs.Record.Valid.{ValidStatement}
use Rattle.lapi_calls.specs.declared.reach.Reach.{Reach}
use Rattle.lapi_calls.specs.declared.limits.Limits.{Limits}
use Rattle.lapi_calls.specs.Calls.{IsCall, peer_of, KnowsPassed, AreTold, MaySend}
use Rattle.lapi_calls.specs.Entries.{is_told, address_by}
use Rattle.lapi_calls.specs.Reaches.{total_of, reach_of}
use Rattle.lapi_calls.specs.Reasons.{reason_tests, long_by, header_is_bad, reach_tests, reason_by_reach}
use Rattle.lapi_calls.specs.Limits.{limits_of}
use Rattle.lapi_calls.proofs.PlainLaws.{reason-same}
use Rattle.lapi_calls.proofs.ReasonLaws.{any-mapped, total-mapped, tests-are, reason-is}

-- where no reason applies, no test holds
none-holds : (tests : List (Bool × Refusal)) → first_reason tests ≡ None → AllByRecursion (λ (t : Bool × Refusal). t.0 ≡ false) tests
unfolding first_reason
none-holds [] h = tt
none-holds ((true, why) ∷ tests) h = absurd (none-some why (sym h))
none-holds ((false, why) ∷ tests) h = (refl, none-holds tests h)

header-fits : (s : Statement) → header_is_bad s ≡ false → length (user_header s) ≤ 64
header-fits (Am target handler header from len tgt org cmpl) h = ltb-false 64 (length header) (or_parts (nat_lt 64 (length header)) _ h).0
header-fits _ h = let q : 0 ≤ 64 = omega arith in q

module _ (known : ℕ → Bool) (given : ℕ → ℕ → ℕ) (d : ℕ) where
  each-told : (ps : List Piece) → list_any (λ (p : Piece). not (is_told known p.at)) ps ≡ false → AreTold known ps
  each-told [] h = tt
  each-told (p ∷ ps) h =
      let parts = or_parts (not (is_told known p.at)) (list_any (λ (p : Piece). not (is_told known p.at)) ps) h in
      (not-false (is_told known p.at) parts.0, each-told ps parts.1)

  one-within : (size : ℕ) (p : Piece) → size < 2 ^ 32 → is_told known p.at ≡ true → (is_told known p.at && not (nat_le (address_by given d p.at + p.len) size)) ≡ false → address_by given d p.at < 2 ^ 32
  one-within size p small told h =
      let inside = leb-true (address_by given d p.at + p.len) size (not-false (nat_le (address_by given d p.at + p.len) size) ((λ k. sym told k && not (nat_le (address_by given d p.at + p.len) size)) ∙ h)) in
      omega arith

  each-within : (size : ℕ) (ps : List Piece) → size < 2 ^ 32 → AreTold known ps → list_any (λ (p : Piece). is_told known p.at && not (nat_le (address_by given d p.at + p.len) size)) ps ≡ false → AllByRecursion (λ (p : Piece). address_by given d p.at < 2 ^ 32) ps
  each-within size [] small told h = tt
  each-within size (p ∷ ps) small told h =
      let parts = or_parts (is_told known p.at && not (nat_le (address_by given d p.at + p.len) size)) (list_any (λ (p : Piece). is_told known p.at && not (nat_le (address_by given d p.at + p.len) size)) ps) h in
      (one-within size p small told.0 parts.0, each-within size ps small told.1 parts.1)

  is-short : (limits : Limits) (s : Statement) → ValidStatement s → limits.longest < 2 ^ 32 → long_by limits (map (reach_of known given d) (target_pieces s)) (map (reach_of known given d) (origin_pieces s)) s ≡ false → length_by Go s < 2 ^ 32
  is-short limits (Put target to from len tgt org cmpl) valid small h = valid.3
  is-short limits (Am target handler header from len tgt org cmpl) valid small h = valid.5
  is-short limits (Putv target to from tgt org cmpl) valid small h =
      let fits = ltb-false limits.longest (total_of (map (reach_of known given d) (pieces_of from))) (or_parts (nat_lt limits.longest (total_of (map (reach_of known given d) (pieces_of to)))) (nat_lt limits.longest (total_of (map (reach_of known given d) (pieces_of from)))) h).1 in
      let same = total-mapped known given d (pieces_of from) in
      omega arith
  is-short limits _ valid small h = let q : 0 < 2 ^ 32 = omega arith in q

-- what isn't refused can be sent
pub sendable : (known : ℕ → Bool) (given : ℕ → ℕ → ℕ) (limits : Limits) (a : ℕ) (s : Statement) → ValidStatement s → reason_by_reach limits known given a s ≡ None → MaySend limits known given a s
sendable known given limits a s valid e = λ small.
    let d = peer_of a s in
    let h = reach_of known given d in
    let none = none-holds (reach_tests limits (map h (target_pieces s)) (map h (origin_pieces s)) s) e in
    let told = each-told known given d (target_pieces s) (sym (any-mapped (λ (r : Reach). not r.known) h (target_pieces s)) ∙ none.1.1.1.1.1.0) in
    record {
      told = told;
      places = each-within known given d limits.memory (target_pieces s) small.0 told (sym (any-mapped (λ (r : Reach). r.known && not (nat_le (r.at + r.len) limits.memory)) h (target_pieces s)) ∙ none.1.0);
      short = is-short known given d limits s valid small.1 none.1.1.1.1.0;
      header = header-fits s none.1.1.1.1.1.1.1.0;
    }

-- the first reason is the record's, by what is known
pub reason-told : (known : ℕ → Bool) (given : ℕ → ℕ → ℕ) (limits : Limits) (a : ℕ) (s : Statement) → ValidStatement s → (script : Script) (rules : Rules) (i : ℕ) → limits ≡ limits_of script (length rules.headers) → IsCall script known given a i s → reason_by_reach limits known given a s ≡ refusal_by script rules (is_told known) a i
reason-told known given limits a s valid script rules i same call =
    let d = peer_of a s in
    (λ k. reason_by_reach (same k) known given a s)
    ∙ reason-same script known given call.are_given d (length rules.headers) s valid
    ∙ ap first_reason (tests-are script rules known d s)
    ∙ (λ k. first_reason (reason_tests script rules (is_told known) (peer_of a (call.is_statement k)) (call.is_statement k)))
    ∙ sym (reason-is script rules (is_told known) a i)

-- and that after a journal, where that is what the task has passed
pub reason-after : (script : Script) (rules : Rules) (J : List Event) (known : ℕ → Bool) (a i : ℕ) → KnowsPassed script J a known → refusal_by script rules (is_told known) a i ≡ refusal_of script rules J a i
unfolding refusal_of
reason-after script rules J known a i knows = λ k. refusal_by script rules (λ at. same at k) a i
  where
    same : (at : Addr) → is_told known at ≡ is_known script J a at
    same (Plain x) = refl
    same (Table round offset) = knows round
