-- What memories hold, what messages carry, and what jobs were given, after a journal. A byte is that of the
-- last write that covers it; a message carries what its source held at its Copy. This is the project's own.
use Rattle.std.specs.Prelude.{ℕ, ◌+◌, ◌-◌, ◌%◌, ◌^◌, ◌==◌, nat_le, nat_lt, bit_or, cond, ◌&&◌, List, [], ◌∷◌, length, map, filter, take, drop, slice_index}
use Rattle.std.specs.List.{flat_map}
use Rattle.lapi_base.specs.declared.statement.RmwOp.{RmwOp}
use Rattle.lapi_base.specs.declared.statement.RmwOp.TheVariants.{Add, Or, Swap, Cas}
use Rattle.lapi_base.specs.declared.span.Span.{Span}
use Rattle.lapi_base.specs.declared.statement.Statement.{Statement}
use Rattle.lapi_base.specs.declared.statement.Statement.TheVariants.{Store, Rmw}
use Rattle.lapi_base.specs.declared.script.Script.{Script}
use Rattle.lapi_base.specs.declared.rule.Rules.{Rules}
use Rattle.lapi_base.specs.declared.message.Leg.{Leg}
use Rattle.lapi_base.specs.declared.message.Leg.TheVariants.{Go, Back, Note, Echo, Join}
use Rattle.lapi_base.specs.declared.message.MsgName.{MsgName}
use Rattle.lapi_base.specs.declared.event.Event.{Event}
use Rattle.lapi_base.specs.declared.event.Event.TheVariants.{Issue, Copy, Land, Begin, End}
use Rattle.lapi_base.specs.Record.Names.{message, name_eq}
use Rattle.lapi_base.specs.Record.Operations.{numbers_below, statement, spans, target, target_pieces, origin_pieces, receiver, is_am, is_rmw, has_back}
use Rattle.lapi_base.specs.Record.Handlers.{number_of, word_bytes, buffer, effect_of, answer_of, answer_pieces}

-- all memories: the byte of each task at each place
abbrev pub Memories : Type 0
Memories = ℕ → ℕ → ℕ

-- a write: where its bytes go
abbrev pub Write : Type 0
Write = ℕ × List ℕ

-- the bytes of these pieces, in list order
unfoldable pub gathered : Memories → (task : ℕ) → List Span → List ℕ
gathered memory t pieces = flat_map (λ p. map (λ k. memory t (p.at + k)) (numbers_below p.len)) pieces

-- the bytes cut up for these pieces, in list order
unfoldable pub scattered : List Span → List ℕ → List Write
scattered [] bytes = []
scattered (p ∷ ps) bytes = (p.at, take p.len bytes) ∷ scattered ps (drop p.len bytes)

-- the byte at x after these writes, of which the last that covers x counts, where `before` stood there
unfoldable pub byte_after : List Write → (x before : ℕ) → ℕ
byte_after [] x before = before
byte_after (w ∷ ws) x before = byte_after ws x (cond (nat_le w.0 x && nat_lt x (w.0 + length w.1)) (slice_index w.1 (x - w.0)) before)

-- Rmw: the word at the target, and what it becomes.

unfoldable pub rmw_word : RmwOp → (old in1 in2 : ℕ) → ℕ
rmw_word Add old in1 in2 = (old + in1) % 2 ^ 32
rmw_word Or old in1 in2 = bit_or old in1
rmw_word Swap old in1 in2 = in1
rmw_word Cas old in1 in2 = cond (old == in1) in2 old

abbrev pub new_word : Statement → ℕ → ℕ
new_word (Rmw target op at in1 in2 prev org) old = rmw_word op old in1 in2
new_word _ old = old

-- after a journal: the memories, the bytes of each message that was copied, and the buffer of each job as it stood when the job began
pub record Values : Type 0 where
  pub memory : Memories
  pub bytes : MsgName → List ℕ
  pub held : MsgName → List ℕ

module _ (script : Script) (rules : Rules) where
  -- the pieces at the target, and those at the origin, of operation a.i
  abbrev pub at_target : ℕ → ℕ → List Span
  at_target a i = spans script (target script a i) (target_pieces (statement script a i))

  abbrev pub at_origin : ℕ → ℕ → List Span
  at_origin a i = spans script (target script a i) (origin_pieces (statement script a i))

  -- the writes of an event, where v was before it
  abbrev pub land_writes : Values → MsgName → Leg → Statement → List Write
  land_writes v m Back s = scattered (at_origin m.origin m.statement) (v.bytes m)
  land_writes v m Go s =
      cond (is_am s) (scattered (buffer script rules m) (v.bytes m))
      (cond (is_rmw s)
      (scattered (at_target m.origin m.statement) (word_bytes (new_word s (number_of (gathered v.memory (target script m.origin m.statement) (at_target m.origin m.statement))))))
      (cond (has_back s) [] (scattered (at_target m.origin m.statement) (v.bytes m))))
  land_writes v m Note s = []
  land_writes v m Echo s = scattered (answer_pieces script m) (v.bytes m)
  land_writes v m (Join d) s = []

  abbrev pub store_writes : Statement → List Write
  store_writes (Store at bytes) = (at, bytes) ∷ []
  store_writes _ = []

  abbrev pub writes : Values → Event → List Write
  writes v (Issue a i) = store_writes (statement script a i)
  writes v (Land m) = land_writes v m m.leg (statement script m.origin m.statement)
  writes v (End m t w) = filter (λ (w : Write). nat_le (w.0 + length w.1) script.memory) (effect_of script rules m (v.held m))
  writes v _ = []

  -- the task whose memory an event writes
  abbrev pub writer : Event → ℕ
  writer (Issue a i) = a
  writer (Land m) = receiver script m
  writer (End m t w) = t
  writer _ = 0

  -- what a message carries, where v is before its Copy
  abbrev pub source_by : Values → MsgName → Leg → Statement → List ℕ
  source_by v m Go s = cond (has_back s) [] (gathered v.memory m.origin (at_origin m.origin m.statement))
  source_by v m Back s = cond (is_rmw s) (v.bytes m) (gathered v.memory (target script m.origin m.statement) (at_target m.origin m.statement))
  source_by v m Note s = []
  source_by v m Echo s = let go = message m.origin m.statement Go in answer_of script rules go (v.held go)
  source_by v m (Join d) s = []

  abbrev pub with_bytes : Values → MsgName → List ℕ → MsgName → List ℕ
  with_bytes v m bytes n = cond (name_eq m n) bytes (v.bytes n)

  -- A Copy fixes what its message carries; for the Back of Rmw it is the word that stood before the Land of its Go.
  abbrev pub land_bytes : Values → MsgName → Leg → Statement → MsgName → List ℕ
  land_bytes v m Go s = cond (is_rmw s) (with_bytes v (message m.origin m.statement Back) (gathered v.memory (target script m.origin m.statement) (at_target m.origin m.statement))) v.bytes
  land_bytes v m _ s = v.bytes

  abbrev pub bytes_after : Values → Event → MsgName → List ℕ
  bytes_after v (Copy m) = with_bytes v m (source_by v m m.leg (statement script m.origin m.statement))
  bytes_after v (Land m) = land_bytes v m m.leg (statement script m.origin m.statement)
  bytes_after v _ = v.bytes

  abbrev pub held_after : Values → Event → MsgName → List ℕ
  held_after v (Begin m t w) = λ n. cond (name_eq m n) (gathered v.memory t (buffer script rules m)) (v.held n)
  held_after v _ = v.held

  unfoldable pub values : List Event → Values
  values [] = record { memory = λ t x. 0; bytes = λ m. []; held = λ m. [] }
  values (e ∷ J) =
      let v = values J in record {
        memory = λ t x. cond (t == writer e) (byte_after (writes v e) x (v.memory t x)) (v.memory t x);
        bytes = bytes_after v e;
        held = held_after v e;
      }

  -- the bytes of a task's memory
  unfoldable pub memory_bytes : List Event → (task : ℕ) → List ℕ
  memory_bytes J t = map ((values J).memory t) (numbers_below script.memory)
