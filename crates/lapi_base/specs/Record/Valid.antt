-- Valid scripts, rules and schedules: the limits that every input keeps, and what its lines may name. In a
-- definition a number has no bound of its own: that it has 32 bits, or 8, is said here. This is the project's own.
use Rattle.std.specs.Prelude.{◌≡◌, ℕ, ◌%◌, ◌^◌, ◌<◌, ◌≤◌, Bool, true, false, List, length, Option, Some, None}
use Rattle.std.specs.List.{AllByRecursion}
use Rattle.lapi_base.specs.declared.address.Addr.{Addr}
use Rattle.lapi_base.specs.declared.address.Addr.TheVariants.{Plain, Table}
use Rattle.lapi_base.specs.declared.piece.Piece.{Piece}
use Rattle.lapi_base.specs.declared.vector.Vector.{Vector}
use Rattle.lapi_base.specs.declared.vector.Vector.TheVariants.{Stride}
use Rattle.lapi_base.specs.declared.statement.RmwOp.{RmwOp}
use Rattle.lapi_base.specs.declared.statement.RmwOp.TheVariants.{Cas}
use Rattle.lapi_base.specs.declared.statement.Statement.{Statement}
use Rattle.lapi_base.specs.declared.statement.Statement.TheVariants.{Store, Put, Get, Putv, Getv, Rmw, Am, Wait, Set, Read, Fence, Gfence}
use Rattle.lapi_base.specs.declared.script.Script.{Script}
use Rattle.lapi_base.specs.Packet.Layout.{is_version, layout_of, most_lines, most_injected}
use Rattle.lapi_base.specs.declared.rule.Rules.{Rules}
use Rattle.lapi_base.specs.declared.schedule.Act.{Act}
use Rattle.lapi_base.specs.declared.schedule.Line.{Line}
use Rattle.lapi_base.specs.declared.schedule.Act.TheVariants.{Step, Poll, Tick, Deliver, Cut, Inject}

abbrev pub IsU32 : ℕ → Type 0
IsU32 n = n < 2 ^ 32

abbrev pub IsByte : ℕ → Type 0
IsByte b = b < 256

abbrev pub IsCounter : Option ℕ → Type 0
IsCounter None = Unit {0}
IsCounter (Some c) = IsU32 c

abbrev pub IsAddress : Addr → Type 0
IsAddress (Plain x) = IsU32 x
IsAddress (Table round offset) = IsU32 round × IsU32 offset

abbrev pub IsPlain : Addr → Type 0
IsPlain (Plain x) = Unit {0}
IsPlain (Table round offset) = ⊥

abbrev pub IsPiece : Piece → Type 0
IsPiece p = IsAddress p.at × IsU32 p.len

abbrev pub ValidVector : Vector → Type 0
ValidVector (Vector.List pieces) = (1 ≤ length pieces) × (length pieces ≤ 16) × AllByRecursion IsPiece pieces
ValidVector (Stride base block stride count) = (1 ≤ count) × (count ≤ 16) × IsAddress base × IsU32 block × IsU32 stride

abbrev pub AtPlain : Vector → Type 0
AtPlain (Vector.List pieces) = AllByRecursion (λ p. IsPlain p.at) pieces
AtPlain (Stride base block stride count) = IsPlain base

abbrev pub in2_by : RmwOp → ℕ → Type 0
in2_by Cas in2 = Unit {0}
in2_by _ in2 = in2 ≡ 0

-- every number is one of 32 bits, and each list keeps its limit
abbrev pub ValidStatement : Statement → Type 0
ValidStatement (Store at bytes) = IsU32 at × (1 ≤ length bytes) × (length bytes ≤ 1024) × AllByRecursion IsByte bytes
ValidStatement (Put target to from len tgt org cmpl) = IsU32 target × IsAddress to × IsU32 from × IsU32 len × IsCounter tgt × IsCounter org × IsCounter cmpl
ValidStatement (Get target from to len tgt org) = IsU32 target × IsAddress from × IsU32 to × IsU32 len × IsCounter tgt × IsCounter org
ValidStatement (Putv target to from tgt org cmpl) = IsU32 target × ValidVector to × ValidVector from × AtPlain from × IsCounter tgt × IsCounter org × IsCounter cmpl
ValidStatement (Getv target from to tgt org) = IsU32 target × ValidVector from × ValidVector to × AtPlain to × IsCounter tgt × IsCounter org
ValidStatement (Rmw target op at in1 in2 prev org) = IsU32 target × IsAddress at × IsU32 in1 × IsU32 in2 × in2_by op in2 × IsU32 prev × IsCounter org
ValidStatement (Am target handler header from len tgt org cmpl) =
    IsU32 target × IsU32 handler × (length header ≤ 128) × AllByRecursion IsByte header × IsU32 from × IsU32 len × IsCounter tgt × IsCounter org × IsCounter cmpl
ValidStatement (Wait counter value) = IsU32 counter × IsU32 value
ValidStatement (Set counter value) = IsU32 counter × IsU32 value
ValidStatement (Read counter) = IsU32 counter
ValidStatement Fence = Unit {0}
ValidStatement Gfence = Unit {0}
ValidStatement (Statement.Addr at) = IsU32 at

pub record ValidScript (script : Script) : Type 0 where
  pub layout : is_version script.layout ≡ true
  pub tasks : (2 ≤ script.tasks) × (script.tasks ≤ 8)
  pub memory : (64 ≤ script.memory) × (script.memory ≤ 65536) × (script.memory % 4 ≡ 0)
  pub counters : script.counters ≤ 64
  pub workers : (1 ≤ script.workers) × (script.workers ≤ 4)
  pub one_list_each : length script.lists ≡ script.tasks
  pub lists : AllByRecursion (λ (statements : List Statement). (length statements ≤ 512) × AllByRecursion ValidStatement statements) script.lists

abbrev pub ValidRules : Rules → Type 0
ValidRules rules = (length rules.headers ≤ 16) × (length rules.completions ≤ 16)

-- `spells` tells which bytes spell a packet
module _ (script : Script) (spells : List ℕ → Bool) where
  abbrev pub ValidAct : Act → Type 0
  ValidAct (Step t) = t < script.tasks
  ValidAct (Poll t) = t < script.tasks
  ValidAct (Tick t) = t < script.tasks
  ValidAct (Deliver a b k) = (a < script.tasks) × (b < script.tasks) × IsU32 k
  ValidAct (Cut a b k n) = (a < script.tasks) × (b < script.tasks) × IsU32 k × IsU32 n
  ValidAct (Inject a b bytes) = (a < script.tasks) × (b < script.tasks) × (length bytes ≤ most_injected) × AllByRecursion IsByte bytes × spells bytes ≡ false
  ValidAct (Act.Begin t w) = (t < script.tasks) × (w < script.workers)
  ValidAct (Act.End t w) = (t < script.tasks) × (w < script.workers)

  -- a line's lane is one of 16
  abbrev pub ValidLine : Line → Type 0
  ValidLine line = (line.lane ≤ 15) × ValidAct line.act

  pub record ValidSchedule (schedule : List Line) : Type 0 where
    pub count : length schedule ≤ most_lines (layout_of script.layout)
    pub lines : AllByRecursion ValidLine schedule

abbrev pub IsNoStep : Act → Type 0
IsNoStep (Step t) = ⊥
IsNoStep _ = Unit {0}
