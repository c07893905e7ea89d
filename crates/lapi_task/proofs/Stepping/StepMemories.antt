-- The bytes of a memory after an event.
use Rattle.std.proofs.Common.{◌≡◌, ℕ, ◌+◌, ◌≤◌, ◌==◌, Bool, true, false, cond, List, [], ◌∷◌, map, length, take, drop, replicate, refl, sym, ap, ◌∙◌, arith}
use Rattle.std.proofs.lemmas.Bool.{cond-true}
use Rattle.std.proofs.lemmas.List.{get_or_default, get_or-take, get_or-drop, length-take-le, length-drop, length-replicate, get_or-replicate, places}
use Rattle.lapi_base.specs.declared.script.Script.{Script}
use Rattle.lapi_base.specs.declared.rule.Rules.{Rules}
use Rattle.lapi_base.specs.declared.event.Event.{Event}
use Rattle.lapi_base.specs.Record.Operations.{numbers_below}
use Rattle.lapi_base.specs.Record.Values.{Write, values, memory_bytes, byte_after, writes, writer}
use Rattle.lapi_base.proofs.TestLaws.{eqb-refl}
use Rattle.lapi_base.proofs.UptoLaws.{is-over, length-over, over-at, over-same}
use Rattle.lapi_memory.specs.TaskMemory.{written}
use Rattle.lapi_base.proofs.MemoryLaws.{byte_written}

-- the bytes that are read are those of the places
pub read-over : (f : ℕ → ℕ) (size at len : ℕ) → at + len ≤ size → take len (drop at (map f (numbers_below size))) ≡ map (λ k. f (at + k)) (numbers_below len)
read-over f size at len l =
    let whole = length-over f size in
    let rest = length-drop at (map f (numbers_below size)) in
    is-over (take len (drop at (map f (numbers_below size)))) (λ k. f (at + k)) len (length-take-le len (drop at (map f (numbers_below size))) (omega (arith, whole, rest)))
    (λ k d lt. get_or-take len (drop at (map f (numbers_below size))) k d lt ∙ get_or-drop at (map f (numbers_below size)) k d ∙ over-at f size (at + k) d (omega arith))

length-written : (memory : List ℕ) (at : ℕ) (bytes : List ℕ) → at + length bytes ≤ length memory → length (written memory at bytes) ≡ length memory
length-written memory at bytes l = grind (arith, places)

-- a write of bytes, place by place
pub written-over : (f : ℕ → ℕ) (size at : ℕ) (bytes : List ℕ) → at + length bytes ≤ size → written (map f (numbers_below size)) at bytes ≡ map (λ x. byte_after ((at, bytes) ∷ []) x (f x)) (numbers_below size)
written-over f size at bytes l =
    let memory = map f (numbers_below size) in
    let whole = length-over f size in
    let fits : at + length bytes ≤ length memory = omega (arith, whole) in
    let long = length-written memory at bytes fits ∙ whole in
    is-over (written memory at bytes) (λ x. byte_after ((at, bytes) ∷ []) x (f x)) size long
    (λ k d lt.
    get_or_default (written memory at bytes) k d 0 (omega (arith, long))
    ∙ byte_written (written memory at bytes) memory at bytes refl fits k
    ∙ ap (byte_after ((at, bytes) ∷ []) k) (over-at f size k 0 lt))

module _ (script : Script) (rules : Rules) where
  -- the memory of a task after an event that writes nothing
  pub memory-none : (e : Event) (J : List Event) (t : ℕ) → writes script rules (values script rules J) e ≡ [] → memory_bytes script rules (e ∷ J) t ≡ memory_bytes script rules J t
  unfolding memory_bytes values byte_after
  memory-none e J t h =
      over-same (λ x. cond (t == writer script rules e) (byte_after (writes script rules (values script rules J) e) x ((values script rules J).memory t x)) ((values script rules J).memory t x)) ((values script rules J).memory t) script.memory
      (λ x. ap (λ (ws : List Write). cond (t == writer script rules e) (byte_after ws x ((values script rules J).memory t x)) ((values script rules J).memory t x)) h ∙ same (t == writer script rules e) ((values script rules J).memory t x))
    where
      same : (b : Bool) (n : ℕ) → cond b n n ≡ n
      same true n = refl
      same false n = refl

  -- and of the task whose memory it writes
  pub memory-written : (e : Event) (J : List Event) (at : ℕ) (bytes : List ℕ) → writes script rules (values script rules J) e ≡ (at, bytes) ∷ [] → at + length bytes ≤ script.memory → written (memory_bytes script rules J (writer script rules e)) at bytes ≡ memory_bytes script rules (e ∷ J) (writer script rules e)
  unfolding memory_bytes values
  memory-written e J at bytes h l =
      let f = (values script rules J).memory (writer script rules e) in
      written-over f script.memory at bytes l
      ∙ over-same (λ x. byte_after ((at, bytes) ∷ []) x (f x)) (λ x. cond (writer script rules e == writer script rules e) (byte_after (writes script rules (values script rules J) e) x (f x)) (f x)) script.memory
      (λ x. sym (cond-true (writer script rules e == writer script rules e) _ (f x) (eqb-refl (writer script rules e)) ∙ ap (λ (ws : List Write). byte_after ws x (f x)) h))

  pub memory-length : (J : List Event) (t : ℕ) → length (memory_bytes script rules J t) ≡ script.memory
  unfolding memory_bytes
  memory-length J t = length-over ((values script rules J).memory t) script.memory

  -- the memory before any event
  pub memory-blank : (t : ℕ) → replicate script.memory 0 ≡ memory_bytes script rules [] t
  unfolding memory_bytes values
  memory-blank t = is-over (replicate script.memory 0) (λ x. 0) script.memory (length-replicate script.memory 0) (λ k d l. get_or-replicate script.memory k 0 d l)
