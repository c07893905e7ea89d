-- Memories, messages and buffers hold bytes alone.
use Rattle.std.proofs.Common.{◌≡◌, ℕ, zero, suc, ◌+◌, ◌-◌, ◌<◌, ◌≤◌, ◌==◌, cond, ◌&&◌, List, [], ◌∷◌, length, map, take, drop, reverse, true, sym, subst, arith}
use Rattle.std.specs.Prelude.{slice_index, slice_index_or, nat_le, nat_lt}
use Rattle.std.specs.List.{AllByRecursion, filter}
use Rattle.std.proofs.lemmas.Bool.{cond_both}
use mathlib.Core.List.{reverse-cons}
use Rattle.lapi_base.specs.declared.script.Script.{Script}
use Rattle.lapi_base.specs.declared.span.Span.{Span}
use Rattle.lapi_base.specs.declared.statement.Statement.{Statement}
use Rattle.lapi_base.specs.declared.statement.Statement.TheVariants.{Store}
use Rattle.lapi_base.specs.declared.rule.Rules.{Rules}
use Rattle.lapi_base.specs.declared.rule.CompletionRule.{CompletionRule}
use Rattle.lapi_base.specs.declared.rule.CompletionRule.TheVariants.{Nothing, Sum, Same, Reversed, Answer}
use Rattle.lapi_base.specs.declared.handler.Effect.TheVariants as effects
use Rattle.lapi_base.specs.declared.message.Leg.{Leg}
use Rattle.lapi_base.specs.declared.message.Leg.TheVariants.{Go, Back, Note, Echo, Join}
use Rattle.lapi_base.specs.declared.message.MsgName.{MsgName}
use Rattle.lapi_base.specs.declared.event.Event.{Event}
use Rattle.lapi_base.specs.declared.event.Event.TheVariants.{Issue, Refuse, Enter, Pass, Copy, Head, Land, Begin, End}
use Rattle.lapi_base.specs.Record.Names.{message, name_eq}
use Rattle.lapi_base.specs.Record.Operations.{numbers_below, statement, statements, target, is_am, is_rmw, has_back}
use Rattle.lapi_base.specs.Record.Handlers.{number_of, word_bytes, buffer, effect, effect_of, answer_of, answer_pieces, sent_back, completion_answer, rule_named, user}
use Rattle.lapi_base.specs.Record.Values.{Memories, Write, Values, gathered, scattered, byte_after, new_word, at_target, at_origin, land_writes, store_writes, writes, writer, with_bytes, land_bytes, source_by, values}
use Rattle.lapi_base.specs.Record.Valid.{IsByte, ValidStatement, ValidScript}
use Rattle.lapi_base.specs.declared.handler.Effect.{Effect}
use Rattle.lapi_base.proofs.ListLaws.{all-any, all-append, all-filter, all-flat_map, all-map, all-weaker}

abbrev pub AllBytes : List ℕ → Type 0
AllBytes xs = AllByRecursion IsByte xs

pub all-take : {X : Type 0} (P : X → Type 0) (n : ℕ) (xs : List X) → AllByRecursion P xs → AllByRecursion P (take n xs)
all-take P zero xs h = tt
all-take P (suc n) [] h = tt
all-take P (suc n) (x ∷ xs) h = (h.0, all-take P n xs h.1)

pub all-drop : {X : Type 0} (P : X → Type 0) (n : ℕ) (xs : List X) → AllByRecursion P xs → AllByRecursion P (drop n xs)
all-drop P zero xs h = h
all-drop P (suc n) [] h = tt
all-drop P (suc n) (x ∷ xs) h = all-drop P n xs h.1

all-reverse : {X : Type 0} (P : X → Type 0) (xs : List X) → AllByRecursion P xs → AllByRecursion P (reverse xs)
all-reverse P [] h = tt
all-reverse P (x ∷ xs) h = subst (AllByRecursion P) (sym (reverse-cons x xs)) (all-append P (reverse xs) (x ∷ []) (all-reverse P xs h.1) (h.0, tt))

index-small : (xs : List ℕ) (k : ℕ) → AllBytes xs → slice_index xs k < 256
index-small [] k h = omega arith
index-small (x ∷ xs) zero h = h.0
index-small (x ∷ xs) (suc k) h = index-small xs k h.1

gathered-small : (memory : Memories) (t : ℕ) (pieces : List Span) → ((x : ℕ) → memory t x < 256) → AllBytes (gathered memory t pieces)
unfolding gathered
gathered-small memory t pieces h = all-flat_map (λ _. Unit {0}) IsByte (λ p. map (λ k. memory t (p.at + k)) (numbers_below p.len)) pieces (all-any pieces) (λ p _. all-map (λ _. Unit {0}) IsByte (λ k. memory t (p.at + k)) (numbers_below p.len) (all-any (numbers_below p.len)) (λ k _. h (p.at + k)))

-- each write writes bytes
abbrev IsSmall : Write → Type 0
IsSmall w = AllBytes w.1

scattered-small : (pieces : List Span) (bytes : List ℕ) → AllBytes bytes → AllByRecursion IsSmall (scattered pieces bytes)
unfolding scattered
scattered-small [] bytes h = tt
scattered-small (p ∷ ps) bytes h = (all-take IsByte p.len bytes h, scattered-small ps (drop p.len bytes) (all-drop IsByte p.len bytes h))

after-small : (ws : List Write) (x before : ℕ) → AllByRecursion IsSmall ws → before < 256 → byte_after ws x before < 256
unfolding byte_after
after-small [] x before h b = b
after-small (w ∷ ws) x before h b =
    after-small ws x _ h.1 (cond_both (nat_le w.0 x && nat_lt x (w.0 + length w.1)) (slice_index w.1 (x - w.0)) before (λ n. n < 256) (λ _. index-small w.1 (x - w.0) h.0) (λ _. b))

word-small : (n : ℕ) → AllBytes (word_bytes n)
unfolding word_bytes
word-small n = (omega arith, (omega arith, (omega arith, (omega arith, tt))))

effect-small : (rule : CompletionRule) (at : ℕ) (bytes : List ℕ) → AllBytes bytes → AllByRecursion IsSmall (effect rule at bytes)
effect-small Nothing at bytes h = tt
effect-small Sum at bytes h = (word-small _, tt)
effect-small Same at bytes h = (h, tt)
effect-small Reversed at bytes h = (all-reverse IsByte bytes h, tt)
effect-small Answer at bytes h = tt

all-index : {X : Type 0} (P : X → Type 0) (xs : List X) (k : ℕ) (other : X) → AllByRecursion P xs → P other → P (slice_index_or xs k other)
all-index P [] k other h o = o
all-index P (x ∷ xs) zero other h o = h.0
all-index P (x ∷ xs) (suc k) other h o = all-index P xs k other h.1 o

-- every statement of a valid script is valid
pub statement-valid : (script : Script) → ValidScript script → (a i : ℕ) → ValidStatement (statement script a i)
unfolding statement
statement-valid script valid a i =
    all-index ValidStatement (statements script a) i Statement.Fence (all-index (λ (s : List Statement). (length s ≤ 512) × AllByRecursion ValidStatement s) script.lists a [] valid.lists (omega arith, tt)).1 tt

module _ (script : Script) (rules : Rules) where
  -- all that a record holds are bytes
  pub record AreSmall (v : Values) : Type 0 where
    pub memory : (t x : ℕ) → v.memory t x < 256
    pub bytes : (m : MsgName) → AllBytes (v.bytes m)
    pub held : (m : MsgName) → AllBytes (v.held m)

  store-small : (s : Statement) → ValidStatement s → AllByRecursion IsSmall (store_writes script rules s)
  store-small (Store at bytes) h = (h.3, tt)
  store-small _ h = tt

  sent-small : (effect : Effect) → AllBytes (sent_back effect)
  sent-small (effects.Answer at value) = word-small value
  sent-small _ = tt

  answer-small : (m : MsgName) (bytes : List ℕ) → AllBytes (answer_of script rules m bytes)
  unfolding answer_of
  answer-small m bytes = sent-small (completion_answer (rule_named script rules m) (user script m) bytes)

  land-small : (v : Values) (m : MsgName) (leg : Leg) (s : Statement) → AreSmall v → AllByRecursion IsSmall (land_writes script rules v m leg s)
  land-small v m Go s h =
      let at = at_target script rules m.origin m.statement in
      let word = number_of (gathered v.memory (target script m.origin m.statement) at) in
      cond_both (is_am s) (scattered (buffer script rules m) (v.bytes m)) (cond (is_rmw s) (scattered at (word_bytes (new_word s word))) (cond (has_back s) [] (scattered at (v.bytes m)))) (AllByRecursion IsSmall)
      (λ _. scattered-small (buffer script rules m) (v.bytes m) (h.bytes m))
      (λ _. cond_both (is_rmw s) (scattered at (word_bytes (new_word s word))) (cond (has_back s) [] (scattered at (v.bytes m))) (AllByRecursion IsSmall)
      (λ _. scattered-small at (word_bytes (new_word s word)) (word-small (new_word s word)))
      (λ _. cond_both (has_back s) [] (scattered at (v.bytes m)) (AllByRecursion IsSmall) (λ _. tt) (λ _. scattered-small at (v.bytes m) (h.bytes m))))
  land-small v m Back s h = scattered-small (at_origin script rules m.origin m.statement) (v.bytes m) (h.bytes m)
  land-small v m Note s h = tt
  land-small v m Echo s h = scattered-small (answer_pieces script m) (v.bytes m) (h.bytes m)
  land-small v m (Join d) s h = tt

  drop-test : (ws : List Write) → AllByRecursion IsSmall ws → AllByRecursion IsSmall (filter (λ (w : Write). nat_le (w.0 + length w.1) script.memory) ws)
  drop-test ws h = let test = λ (w : Write). nat_le (w.0 + length w.1) script.memory in all-weaker (λ w. IsSmall w × (test w ≡ true)) IsSmall (λ w x. x.0) (filter test ws) (all-filter IsSmall test ws h)

  writes-small : ValidScript script → (v : Values) (e : Event) → AreSmall v → AllByRecursion IsSmall (writes script rules v e)
  unfolding effect_of
  writes-small valid v (Issue a i) h = store-small (statement script a i) (statement-valid script valid a i)
  writes-small valid v (Land m) h = land-small v m m.leg (statement script m.origin m.statement) h
  writes-small valid v (End m t w) h = drop-test (effect_of script rules m (v.held m)) (effect-small _ _ (v.held m) (h.held m))
  writes-small valid v (Refuse a i reason) h = tt
  writes-small valid v (Enter a i) h = tt
  writes-small valid v (Pass a i) h = tt
  writes-small valid v (Copy m) h = tt
  writes-small valid v (Head m) h = tt
  writes-small valid v (Begin m t w) h = tt

  source-small : (v : Values) (m : MsgName) (leg : Leg) (s : Statement) → AreSmall v → AllBytes (source_by script rules v m leg s)
  source-small v m Go s h = cond_both (has_back s) [] (gathered v.memory m.origin (at_origin script rules m.origin m.statement)) AllBytes (λ _. tt) (λ _. gathered-small v.memory m.origin (at_origin script rules m.origin m.statement) (h.memory m.origin))
  source-small v m Back s h =
      let d = target script m.origin m.statement in
      cond_both (is_rmw s) (v.bytes m) (gathered v.memory d (at_target script rules m.origin m.statement)) AllBytes (λ _. h.bytes m) (λ _. gathered-small v.memory d (at_target script rules m.origin m.statement) (h.memory d))
  source-small v m Note s h = tt
  source-small v m Echo s h = answer-small (message m.origin m.statement Go) (v.held (message m.origin m.statement Go))
  source-small v m (Join d) s h = tt

  with-small : (v : Values) (m : MsgName) (bytes : List ℕ) (n : MsgName) → AllBytes bytes → AreSmall v → AllBytes (with_bytes script rules v m bytes n)
  with-small v m bytes n b h = cond_both (name_eq m n) bytes (v.bytes n) AllBytes (λ _. b) (λ _. h.bytes n)

  land_bytes-small : (v : Values) (m : MsgName) (leg : Leg) (s : Statement) (n : MsgName) → AreSmall v → AllBytes (land_bytes script rules v m leg s n)
  land_bytes-small v m Go s n h =
      let d = target script m.origin m.statement in
      let word = gathered v.memory d (at_target script rules m.origin m.statement) in
      cond_both (is_rmw s) (with_bytes script rules v (message m.origin m.statement Back) word) v.bytes (λ f. AllBytes (f n)) (λ _. with-small v (message m.origin m.statement Back) word n (gathered-small v.memory d (at_target script rules m.origin m.statement) (h.memory d)) h) (λ _. h.bytes n)
  land_bytes-small v m Back s n h = h.bytes n
  land_bytes-small v m Note s n h = h.bytes n
  land_bytes-small v m Echo s n h = h.bytes n
  land_bytes-small v m (Join d) s n h = h.bytes n

  memory-small : ValidScript script → (v : Values) (e : Event) → AreSmall v → (t x : ℕ) → cond (t == writer script rules e) (byte_after (writes script rules v e) x (v.memory t x)) (v.memory t x) < 256
  memory-small valid v e h t x = cond_both (t == writer script rules e) (byte_after (writes script rules v e) x (v.memory t x)) (v.memory t x) (λ n. n < 256) (λ _. after-small (writes script rules v e) x (v.memory t x) (writes-small valid v e h) (h.memory t x)) (λ _. h.memory t x)

  pub values-small : ValidScript script → (J : List Event) → AreSmall (values script rules J)
  unfolding values
  values-small valid [] = record { memory = λ t x. omega arith; bytes = λ m. tt; held = λ m. tt }
  values-small valid (Copy m ∷ J) =
      let v = values script rules J in
      let h = values-small valid J in
      record { memory = memory-small valid v (Copy m) h; bytes = λ n. with-small v m (source_by script rules v m m.leg (statement script m.origin m.statement)) n (source-small v m m.leg (statement script m.origin m.statement) h) h; held = h.held }
  values-small valid (Land m ∷ J) =
      let v = values script rules J in
      let h = values-small valid J in
      record { memory = memory-small valid v (Land m) h; bytes = λ n. land_bytes-small v m m.leg (statement script m.origin m.statement) n h; held = h.held }
  values-small valid (Begin m t w ∷ J) =
      let v = values script rules J in
      let h = values-small valid J in
      record { memory = memory-small valid v (Begin m t w) h; bytes = h.bytes; held = λ n. cond_both (name_eq m n) (gathered v.memory t (buffer script rules m)) (v.held n) AllBytes (λ _. gathered-small v.memory t (buffer script rules m) (h.memory t)) (λ _. h.held n) }
  values-small valid (e ∷ J) = let h = values-small valid J in record { memory = memory-small valid (values script rules J) e h; bytes = h.bytes; held = h.held }
