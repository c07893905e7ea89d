-- The memory and the counters of a task after the end of a job.
use Rattle.std.proofs.Common.{◌≡◌, ℕ, ◌+◌, ◌<◌, ◌==◌, true, false, cond, ◌&&◌, List, [], ◌∷◌, filter, map, length, Option, Some, None, refl, sym, ap, ◌∙◌}
use Rattle.std.specs.Prelude.{slice_index, nat_le}
use Rattle.std.proofs.lemmas.Bool.{leb-true}
use Rattle.lapi_base.specs.declared.script.Script.{Script}
use Rattle.lapi_base.specs.declared.rule.Rules.{Rules}
use Rattle.lapi_base.specs.declared.event.Event.{Event}
use Rattle.lapi_base.specs.declared.event.Event.TheVariants.{End}
use Rattle.lapi_base.specs.declared.message.MsgName.{MsgName}
use Rattle.lapi_base.specs.Record.Atomic.{Atomic}
use Rattle.lapi_base.specs.Record.Counters.{count, tells, is_counter}
use Rattle.lapi_base.specs.Record.Handlers.{effect_of}
use Rattle.lapi_base.specs.Record.Operations.{numbers_below, statement, tgt_counter}
use Rattle.lapi_base.specs.Record.Refusals.{option_any}
use Rattle.lapi_base.specs.Record.Values.{Write, byte_after, values, memory_bytes}
use Rattle.lapi_base.proofs.TestLaws.{eqb-refl}
use Rattle.lapi_base.proofs.UptoLaws.{length-over, over-same}
use Rattle.lapi_memory.specs.TaskMemory.{written}
use Rattle.lapi_parts.proofs.WrittenMemory.{ends-write}
use Rattle.lapi_task.specs.Counting.{announced}
use Rattle.lapi_task.specs.Effects.{all_written}
use Rattle.lapi_task.proofs.Receiving.ReceiveCounts.{announced-at}
use Rattle.lapi_task.proofs.Stepping.StepMemories.{written-over}

-- the writes that lie within a memory of this size
abbrev fitting : (size : ℕ) → List Write → List Write
fitting size ws = filter (λ (w : Write). nat_le (w.0 + length w.1) size) ws

-- the bytes after these writes are those of the writes that fit
writes-over : (f : ℕ → ℕ) (size : ℕ) (ws : List Write) → all_written (map f (numbers_below size)) ws ≡ map (λ x. byte_after (fitting size ws) x (f x)) (numbers_below size)
unfolding byte_after
writes-over f size [] = refl
writes-over f size (w ∷ ws) =
    let M = map f (numbers_below size) in
    elim (nat_le (w.0 + length w.1) size) as (λ b. nat_le (w.0 + length w.1) size ≡ b → all_written M (w ∷ ws) ≡ map (λ x. byte_after (cond b (w ∷ fitting size ws) (fitting size ws)) x (f x)) (numbers_below size)) [
      | true ↦ λ e.
          ap (λ n. all_written (cond (nat_le (w.0 + length w.1) n) (written M w.0 w.1) M) ws) (length-over f size)
          ∙ ap (λ b. all_written (cond b (written M w.0 w.1) M) ws) e
          ∙ ap (λ (bytes : List ℕ). all_written bytes ws) (written-over f size w.0 w.1 (leb-true (w.0 + length w.1) size e))
          ∙ writes-over (λ x. byte_after (w ∷ []) x (f x)) size ws
      | false ↦ λ e.
          ap (λ n. all_written (cond (nat_le (w.0 + length w.1) n) (written M w.0 w.1) M) ws) (length-over f size)
          ∙ ap (λ b. all_written (cond b (written M w.0 w.1) M) ws) e
          ∙ writes-over f size ws
    ] refl

module _ (script : Script) (rules : Rules) where
  -- what the effect of a job makes of the memory
  pub memory-ended : (J : List Event) (m : MsgName) (t w : ℕ) (ws : List Write) → Atomic script rules (End m t w ∷ J) → ws ≡ effect_of script rules m ((values script rules J).held m) → all_written (memory_bytes script rules J t) ws ≡ memory_bytes script rules (End m t w ∷ J) t
  unfolding memory_bytes
  memory-ended J m t w ws atomic e =
      let f = (values script rules J).memory t in
      writes-over f script.memory ws
      ∙ over-same (λ x. byte_after (fitting script.memory ws) x (f x)) ((values script rules (End m t w ∷ J)).memory t) script.memory
      (λ x. ap (λ (vs : List Write). byte_after (fitting script.memory vs) x (f x)) e ∙ sym (ends-write script rules (End m t w ∷ J) atomic m t w x J refl))

  told-by : (o : Option ℕ) (t c : ℕ) → option_any (λ d. d == c) o ≡ is_counter o t t c
  told-by None t c = refl
  told-by (Some d) t c = sym (ap (λ b. b && d == c) (eqb-refl t))

  -- and of a counter
  pub counter-ended : (J : List Event) (m : MsgName) (t w : ℕ) (counters : List ℕ) (c : ℕ) → c < length counters → slice_index counters c ≡ count script rules J t c → slice_index (announced counters (tgt_counter (statement script m.origin m.statement))) c ≡ count script rules (End m t w ∷ J) t c
  unfolding count tells
  counter-ended J m t w counters c l e =
      let o = tgt_counter (statement script m.origin m.statement) in
      announced-at counters o c l
      ∙ ap (λ n. n + cond (option_any (λ d. d == c) o) 1 0) e
      ∙ ap (λ b. count script rules J t c + cond b 1 0) (told-by o t c)
