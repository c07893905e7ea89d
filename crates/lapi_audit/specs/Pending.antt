-- The first statement of each task whose data are under way, as it is kept; its next statement where there is none.
use Rattle.std.specs.Prelude.{◌≡◌, ℕ, ◌<◌, ◌≤◌, Bool, true, false, List, length, slice_index_or, slice_set}
use Rattle.lapi_base.specs.declared.script.Script.{Script}
use Rattle.lapi_base.specs.Record.Below.{least_missing}
use Rattle.lapi_base.specs.Record.Names.{EventKey, Issued}
use Rattle.lapi_base.specs.Record.Operations.{statements}
use Rattle.lapi_audit.specs.Waits.{clear_at, clear_before}

module _ (script : Script) (stands : EventKey → Bool) where
  abbrev pub first_pending : (next a : ℕ) → ℕ
  first_pending next a = least_missing next (clear_at script stands a)

  -- the first is found anew for one task
  abbrev pub after : (nexts : List ℕ) (a : ℕ) (firsts : List ℕ) → List ℕ
  after nexts a firsts = slice_set firsts a (first_pending (slice_index_or nexts a 0) a)

  -- they stand for the deeds so far, of which none issues a statement that hasn't come
  pub record PendingStands (nexts firsts : List ℕ) : Type 0 where
    pub count : length firsts ≡ script.tasks
    pub pending : (a : ℕ) → a < script.tasks → slice_index_or firsts a 0 ≡ first_pending (slice_index_or nexts a 0) a
    pub unissued : (a j : ℕ) → a < script.tasks → slice_index_or nexts a 0 ≤ j → stands (Issued a j) ≡ false

  -- all data before a task's old first have landed, so that the search for the new one may begin there
  pub record MaySearch (nexts firsts : List ℕ) (a : ℕ) : Type 0 where
    pub landed : clear_before script stands a (slice_index_or firsts a 0) ≡ true
    pub ahead : slice_index_or firsts a 0 ≤ slice_index_or nexts a 0
    pub within : slice_index_or nexts a 0 ≤ length (statements script a)
