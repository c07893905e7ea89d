-- The writes of a landing, in the memory as a list of bytes.
use Rattle.std.proofs.Common.{◌≡◌, ℕ, ◌+◌, ◌≤◌, true, List, [], ◌∷◌, ◌++◌, Option, map, length, drop, refl, sym, ap, ◌∙◌, arith}
use Rattle.std.specs.List.{AllByRecursion, flat_map}
use Rattle.std.proofs.lemmas.List.{append-nil, length-take}
use Rattle.lapi_base.specs.declared.script.Script.{Script}
use Rattle.lapi_base.specs.declared.rule.Rules.{Rules}
use Rattle.lapi_base.specs.declared.event.Event.{Event}
use Rattle.lapi_base.specs.declared.handler.HeaderOut.{HeaderOut}
use Rattle.lapi_base.specs.declared.head.Head.{Head}
use Rattle.lapi_base.specs.declared.head.Head.TheVariants as heads
use Rattle.lapi_base.specs.declared.message.MsgName.{MsgName}
use Rattle.lapi_base.specs.declared.span.Span.{Span}
use Rattle.lapi_base.specs.Record.Handlers.{number_of, word_bytes, buffer}
use Rattle.lapi_base.specs.Record.HeadSays.{is_active, asked_pieces, lands}
use Rattle.lapi_base.specs.Record.Operations.{numbers_below, one_span}
use Rattle.lapi_base.specs.Record.Values.{Write, values, gathered, scattered, byte_after, memory_bytes, rmw_word}
use Rattle.lapi_base.specs.Laws.Receiving.{SpansAreInMemory}
use Rattle.lapi_memory.specs.TaskMemory.{bytes_at}
use Rattle.lapi_task.specs.Answered.{kept_pieces}
use Rattle.lapi_task.specs.Landed.{head_writes, after_writes}
use Rattle.lapi_task.proofs.Stepping.StepMemories.{read-over, written-over, memory-length}

-- each write lies within a memory of this size
abbrev pub WritesWithin : (size : ℕ) → List Write → Type 0
WritesWithin size writes = AllByRecursion (λ (w : Write). w.0 + length w.1 ≤ size) writes

pub writes-over : (f : ℕ → ℕ) (size : ℕ) (ws : List Write) → WritesWithin size ws → after_writes (map f (numbers_below size)) ws ≡ map (λ x. byte_after ws x (f x)) (numbers_below size)
unfolding byte_after
writes-over f size [] h = refl
writes-over f size (w ∷ ws) h = ap (λ memory. after_writes memory ws) (written-over f size w.0 w.1 h.0) ∙ writes-over (λ x. byte_after ((w.0, w.1) ∷ []) x (f x)) size ws h.1

pub scattered-within : (script : Script) (pieces : List Span) (bytes : List ℕ) → SpansAreInMemory script pieces → WritesWithin script.memory (scattered pieces bytes)
unfolding scattered
scattered-within script [] bytes h = tt
scattered-within script (p ∷ ps) bytes h = ((let l = h.0 in let n = length-take p.len bytes in omega (arith, l, n)), scattered-within script ps (drop p.len bytes) h.1)

module _ (script : Script) (rules : Rules) (J : List Event) (t : ℕ) where
  -- what stands at pieces
  pub picked-is : (pieces : List Span) → SpansAreInMemory script pieces → flat_map (λ p. bytes_at (memory_bytes script rules J t) p.at p.len) pieces ≡ gathered (values script rules J).memory t pieces
  unfolding memory_bytes gathered
  picked-is [] h = refl
  picked-is (p ∷ ps) h =
      let f = (values script rules J).memory t in
      let rest = picked-is ps h.1 in
      let own = read-over f script.memory p.at p.len h.0 in
      ap (λ (xs : List ℕ). xs ++ flat_map (λ q. bytes_at (memory_bytes script rules J t) q.at q.len) ps) own
      ∙ ap (λ (xs : List ℕ). map (λ k. f (p.at + k)) (numbers_below p.len) ++ xs) rest

  -- the writes of a head are those of the record, where an active message is kept in its buffer
  pub writes-are : (m : MsgName) (h : Head) (out : Option HeaderOut) (bytes : List ℕ) → SpansAreInMemory script (asked_pieces h) → (is_active h ≡ true → buffer script rules m ≡ kept_pieces script.memory (length bytes) out) → head_writes h out bytes (memory_bytes script rules J t) ≡ lands script rules (values script rules J).memory t m h (length bytes) bytes
  unfolding scattered word_bytes
  writes-are m (heads.RmwGo op at in1 in2 prev org) out bytes there keeps =
      let word = λ (old : List ℕ). word_bytes (rmw_word op (number_of old) in1 in2) in
      ap (λ (old : List ℕ). (at, word old) ∷ []) (sym (append-nil (bytes_at (memory_bytes script rules J t) at 4)) ∙ picked-is (one_span at 4) there)
  writes-are m (heads.Am handler tgt cmpl header) out bytes there keeps =
      ap (λ n. scattered (kept_pieces n (length bytes) out) bytes) (memory-length script rules J t)
      ∙ ap (λ pieces. scattered pieces bytes) (sym (keeps refl))
  writes-are m _ out bytes there keeps = refl
