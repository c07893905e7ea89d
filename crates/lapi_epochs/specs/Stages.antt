-- Stages: what the memories hold after each epoch, of a script without active messages and read-modify-writes in which
-- no operation reads what another operation of its epoch writes. A writer of a library over global fences gives the
-- memories after each epoch and shows of them what stands in `AreStages`, which names no journal; that they are what
-- every run leaves is a law. This is the project's own.
use Rattle.std.specs.Prelude.{◌≡◌, ℕ, suc, ◌+◌, ◌<◌, ◌==◌, nat_le, nat_lt, Bool, true, false, cond, ◌&&◌, ◌||◌, List, [], length, None}
use Rattle.std.specs.List.{list_any}
use Rattle.lapi_base.specs.declared.piece.Piece.{Piece}
use Rattle.lapi_base.specs.declared.span.Span.{Span}
use Rattle.lapi_base.specs.declared.statement.Statement.{Statement}
use Rattle.lapi_base.specs.declared.statement.Statement.TheVariants.{Store, Put, Get, Putv, Getv}
use Rattle.lapi_base.specs.declared.script.Script.{Script}
use Rattle.lapi_base.specs.declared.rule.Rules.{Rules}
use Rattle.lapi_base.specs.declared.message.Leg.TheVariants.{Go, Back}
use Rattle.lapi_base.specs.declared.event.Event.{Event}
use Rattle.lapi_base.specs.Record.Names.{message, EventKey, Issued, Landed, happened}
use Rattle.lapi_base.specs.Record.Operations.{statements, statement, spans, target_pieces, origin_pieces, target, is_data, is_am, is_rmw, one_span}
use Rattle.lapi_base.specs.Record.Values.{Memories, gathered, values}
use Rattle.lapi_base.specs.Record.Refusals.{next, refusal_of}
use Rattle.lapi_epochs.specs.Epochs.{epoch, Has}

-- it writes bytes of its own into its task's memory
abbrev pub is_store : Statement → Bool
is_store (Store at bytes) = true
is_store _ = false

-- its data go from the origin to the target
abbrev pub goes : Statement → Bool
goes (Put target to from len tgt org cmpl) = true
goes (Putv target to from tgt org cmpl) = true
goes _ = false

-- its data come from the target to the origin
abbrev pub comes : Statement → Bool
comes (Get target from to len tgt org) = true
comes (Getv target from to tgt org) = true
comes _ = false

-- the pieces that its data are read from, at the task that they come from
abbrev pub read_pieces : Statement → List Piece
read_pieces s = cond (comes s) (target_pieces s) (origin_pieces s)

-- the pieces that are written, at the task that its data go to; a store writes its own task's
abbrev pub written_pieces : Statement → List Piece
written_pieces s = cond (goes s) (target_pieces s) (cond (comes s || is_store s) (origin_pieces s) [])

-- one of these pieces covers place x
unfoldable pub covers : List Span → (x : ℕ) → Bool
covers pieces x = list_any (λ (p : Span). nat_le p.at x && nat_lt x (p.at + p.len)) pieces

module _ (script : Script) where
  -- the task whose memory statement a.i reads
  abbrev pub reads_from : (a i : ℕ) → ℕ
  reads_from a i = cond (comes (statement script a i)) (target script a i) a

  -- where it reads
  abbrev pub reads_at : (a i : ℕ) → List Span
  reads_at a i = spans script (target script a i) (read_pieces (statement script a i))

  -- the task whose memory it writes
  abbrev pub writes_to : (a i : ℕ) → ℕ
  writes_to a i = cond (goes (statement script a i)) (target script a i) a

  -- where it writes
  abbrev pub writes_at : (a i : ℕ) → List Span
  writes_at a i = spans script (target script a i) (written_pieces (statement script a i))

  -- statement a.i writes byte x of task t
  abbrev pub is_written : (a i t x : ℕ) → Bool
  is_written a i t x = (t == writes_to a i) && covers (writes_at a i) x

  -- the deed by which it writes: the landing of its data, or the issue of a store
  abbrev pub write_deed : (a i : ℕ) → EventKey
  write_deed a i =
      cond (goes (statement script a i)) (Landed (message a i Go))
      (cond (comes (statement script a i)) (Landed (message a i Back)) (Issued a i))

module _ (script : Script) (rules : Rules) where
  -- M k is what the memories hold after k epochs
  pub record AreStages (M : ℕ → Memories) : Type 0 where
    -- no statement is an active message or a read-modify-write, and none is refused
    pub only_moves : (a i : ℕ) → Has script a i
        → (is_am (statement script a i) || is_rmw (statement script a i)) ≡ false
    pub none_refused : (J : List Event) (a i : ℕ) → Has script a i → refusal_of script rules J a i ≡ None
    -- zeros at first; and what an epoch writes nowhere stays
    pub start : (t x : ℕ) → M 0 t x ≡ 0
    pub stays : (k t x : ℕ)
        → ((a i : ℕ) → Has script a i → epoch script a i ≡ k → is_written script a i t x ≡ false)
        → M (suc k) t x ≡ M k t x
    -- after its epoch, the bytes of a store stand where it writes, and at both sides of an operation stands the same
    pub stored : (a i at : ℕ) (bytes : List ℕ) → Has script a i → statement script a i ≡ Store at bytes
        → gathered (M (suc (epoch script a i))) a (one_span at (length bytes)) ≡ bytes
    pub carried : (a i : ℕ) → Has script a i → is_data (statement script a i) ≡ true →
        gathered (M (suc (epoch script a i))) (reads_from script a i) (reads_at script a i)
        ≡ gathered (M (suc (epoch script a i))) (writes_to script a i) (writes_at script a i)
    -- what an operation reads is written in its epoch by earlier stores of its own task alone
    pub apart : (a i b j y : ℕ) → Has script a i → Has script b j → is_data (statement script a i) ≡ true
        → covers (reads_at script a i) y ≡ true → is_written script b j (reads_from script a i) y ≡ true
        → epoch script b j ≡ epoch script a i →
        (is_store (statement script b j) ≡ true) × (b ≡ a) × (j < i)

  -- byte x of task t is at stage k: of the statements that write it, exactly those of the first k epochs have happened so
  abbrev pub IsAtStage : List Event → (k t x : ℕ) → Type 0
  IsAtStage J k t x =
      (a i : ℕ) → Has script a i → is_written script a i t x ≡ true
      → happened (write_deed script a i) J ≡ nat_lt (epoch script a i) k

  -- a byte that is at a stage is what its memories hold
  abbrev pub BytesAreStages : List Event → Type 0
  BytesAreStages J =
      (M : ℕ → Memories) → AreStages M → (k t x : ℕ) → IsAtStage J k t x
      → (values script rules J).memory t x ≡ M k t x

  -- Where every task has n global fences and no statement after them writes, and each is past its last statement, all
  -- memories are those of the last stage.
  abbrev pub EndsAreStages : List Event → Type 0
  EndsAreStages J = (M : ℕ → Memories) → AreStages M → (n : ℕ)
      → ((a : ℕ) → a < script.tasks → epoch script a (length (statements script a)) ≡ n)
      → ((a i t x : ℕ) → Has script a i → is_written script a i t x ≡ true → epoch script a i < n)
      → ((a : ℕ) → a < script.tasks → next J a ≡ length (statements script a))
      → (t x : ℕ) → (values script rules J).memory t x ≡ M n t x
