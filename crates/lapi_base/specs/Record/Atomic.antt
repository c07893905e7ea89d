-- The atomic message machine: what each event of a journal keeps, given what stood before it. No packet,
-- number, window, wire or thread is named here. In which order the events of an operation come follows the RSCT
-- LAPI Programming Guide, SA22-7936, in outline; all else is this project's own.
use Rattle.std.specs.Prelude.{◌≡◌, ℕ, ◌==◌, nat_le, nat_lt, Bool, true, false, cond, ◌&&◌, ◌||◌, not, List, [], ◌∷◌, ◌++◌, length, reverse, Option, Some, None, is_some}
use Rattle.std.specs.List.{list_all}
use Rattle.lapi_base.specs.declared.statement.Statement.{Statement}
use Rattle.lapi_base.specs.declared.statement.Statement.TheVariants.{Store, Wait, Set, Read, Fence, Gfence}
use Rattle.lapi_base.specs.declared.script.Script.{Script}
use Rattle.lapi_base.specs.declared.rule.Rules.{Rules}
use Rattle.lapi_base.specs.declared.message.Leg.{Leg}
use Rattle.lapi_base.specs.declared.message.Leg.TheVariants.{Go, Back, Note, Echo, Join}
use Rattle.lapi_base.specs.declared.message.MsgName.{MsgName}
use Rattle.lapi_base.specs.declared.event.Event.{Event}
use Rattle.lapi_base.specs.declared.event.Event.TheVariants.{Issue, Refuse, Enter, Pass, Copy, Head, Land, Begin, End}
use Rattle.lapi_base.specs.Record.Below.{every_below}
use Rattle.lapi_base.specs.Record.Names.{message, name_eq, leg_eq, EventKey, Issued, Entered, Copied, Headed, Landed, Begun, Ended, key_of, happened}
use Rattle.lapi_base.specs.Record.Operations.{statements, statement, is_data, is_am, has_back, has_leg, cmpl_counter, receiver, has_join}
use Rattle.lapi_base.specs.Record.Handlers.{has_completion, answers}
use Rattle.lapi_base.specs.Record.Counters.{count}
use Rattle.lapi_base.specs.Record.Refusals.{next, partner, joined, refusal_of}
use Rattle.lapi_base.specs.Record.Jobs.{queue, runs}

-- kinds of statements, by what is happened with them
abbrev pub is_issued : Statement → Bool
is_issued (Store at bytes) = true
is_issued (Set counter value) = true
is_issued (Read counter) = true
is_issued s = is_data s

abbrev pub is_passed : Statement → Bool
is_passed (Wait counter value) = true
is_passed Fence = true
is_passed Gfence = true
is_passed (Statement.Addr at) = true
is_passed _ = false

abbrev pub only_if : Bool → List EventKey → List EventKey
only_if b xs = cond b xs []

-- the events of the Join to d of an entered statement
abbrev pub join_chain : (a i d : ℕ) → List EventKey
join_chain a i d = Entered a i ∷ Copied (message a i (Join d)) ∷ Landed (message a i (Join d)) ∷ []

module _ (script : Script) (rules : Rules) where
  abbrev pub has_statement : ℕ → ℕ → Bool
  has_statement a i = nat_lt a script.tasks && nat_lt i (length (statements script a))

  abbrev pub has_message : MsgName → Bool
  has_message m = has_statement m.origin m.statement && has_leg script (answers script rules m.origin m.statement) m.origin m.leg (statement script m.origin m.statement)

  abbrev pub has_job : MsgName → (task worker : ℕ) → Bool
  has_job m t w = (has_message m && (leg_eq m.leg Go && is_am (statement script m.origin m.statement))) && (receiver script m == t && (nat_lt t script.tasks && nat_lt w script.workers))

  -- an event of a statement or a message that is there and has such an event
  abbrev pub is_there : Event → Bool
  is_there (Issue a i) = has_statement a i && is_issued (statement script a i)
  is_there (Refuse a i reason) = has_statement a i
  is_there (Enter a i) = has_statement a i && has_join (statement script a i)
  is_there (Pass a i) = has_statement a i && is_passed (statement script a i)
  is_there (Copy m) = has_message m
  is_there (Head m) = has_message m && (leg_eq m.leg Go && is_am (statement script m.origin m.statement))
  is_there (Land m) = has_message m
  is_there (Begin m t w) = has_job m t w
  is_there (End m t w) = has_job m t w

  -- The events of operation a.i: what stands before its data land, before its job begins, and before what follows.
  abbrev pub to_land : ℕ → ℕ → List EventKey
  to_land a i = Issued a i ∷ Copied (message a i Go) ∷ only_if (is_am (statement script a i)) (Headed (message a i Go) ∷ [])

  abbrev pub to_begin : ℕ → ℕ → List EventKey
  to_begin a i = Landed (message a i Go) ∷ to_land a i

  abbrev pub to_follow : ℕ → ℕ → List EventKey
  to_follow a i = only_if (has_completion script rules a i) (Begun (message a i Go) ∷ Ended (message a i Go) ∷ []) ++ to_begin a i

  -- all of them: a Back follows where the data come back, an Echo where the operation answers, and else a Note where a completion counter is named
  abbrev pub chain : ℕ → ℕ → List EventKey
  chain a i =
      to_follow a i
      ++ only_if (has_back (statement script a i)) (Copied (message a i Back) ∷ Landed (message a i Back) ∷ [])
      ++ only_if (is_some (cmpl_counter (statement script a i)) && not (answers script rules a i)) (Copied (message a i Note) ∷ Landed (message a i Note) ∷ [])
      ++ only_if (answers script rules a i) (Copied (message a i Echo) ∷ Landed (message a i Echo) ∷ [])

  abbrev pub copy_needs : ℕ → ℕ → Leg → List EventKey
  copy_needs a i Go = Issued a i ∷ []
  copy_needs a i (Join d) = Entered a i ∷ []
  copy_needs a i Back = to_follow a i
  copy_needs a i Note = to_follow a i
  copy_needs a i Echo = to_follow a i

  abbrev pub land_needs : ℕ → ℕ → Leg → List EventKey
  land_needs a i Go = to_land a i
  land_needs a i leg = Copied (message a i leg) ∷ copy_needs a i leg

  -- what has to stand before an event of this kind and name
  unfoldable pub needs : EventKey → List EventKey
  needs (Copied m) = copy_needs m.origin m.statement m.leg
  needs (Headed m) = Issued m.origin m.statement ∷ Copied m ∷ []
  needs (Landed m) = land_needs m.origin m.statement m.leg
  needs (Begun m) = Landed m ∷ to_land m.origin m.statement
  needs (Ended m) = only_if (has_completion script rules m.origin m.statement) (Begun m ∷ []) ++ Landed m ∷ to_land m.origin m.statement
  needs _ = []

  -- the data of operation a.i have landed
  abbrev pub data_landed : List Event → ℕ → ℕ → Bool
  data_landed J a i = happened (Landed (message a i (cond (has_back (statement script a i)) Back Go))) J

  -- the data of every issued data operation of a before statement i have landed
  unfoldable pub landed_before : List Event → ℕ → ℕ → Bool
  landed_before J a i = every_below i (λ j. not (is_data (statement script a j) && happened (Issued a j) J) || data_landed J a j)

  -- every task has entered its fence of this round, and all data from before those fences have landed
  abbrev pub partner_cleared : List Event → ℕ → Option ℕ → Bool
  partner_cleared J d None = false
  partner_cleared J d (Some j) = happened (Entered d j) J && landed_before J d j

  unfoldable pub all_cleared : List Event → ℕ → ℕ → Bool
  all_cleared J a i = every_below script.tasks (λ d. partner_cleared J d (partner script a i d))

  -- a worker ends what it runs, and begins the first job of the queue where it runs none
  abbrev pub is_first : MsgName → List MsgName → Bool
  is_first m [] = false
  is_first m (n ∷ ns) = name_eq m n

  abbrev pub is_run : MsgName → Option MsgName → Bool
  is_run m None = false
  is_run m (Some n) = name_eq m n

  abbrev pub job_turn : List Event → Event → Bool
  job_turn J (Begin m t w) = is_first m (queue script rules J t) && not (is_some (runs J t w))
  job_turn J (End m t w) = is_run m (runs J t w)
  job_turn J _ = true

  abbrev pub pass_allowed : List Event → ℕ → ℕ → Statement → Bool
  pass_allowed J a i (Wait counter value) = nat_le value (count script rules J a counter)
  pass_allowed J a i Fence = landed_before J a i
  pass_allowed J a i Gfence = all_cleared J a i
  pass_allowed J a i (Statement.Addr at) = not (nat_le at script.memory) || joined script J a i
  pass_allowed J a i _ = true

  abbrev pub passes : List Event → Event → Bool
  passes J (Pass a i) = pass_allowed J a i (statement script a i)
  passes J _ = true

  -- statements go in order, each refused exactly with its reason; what has to be entered is entered before it is passed
  abbrev pub in_turn : List Event → Event → Type 0
  in_turn J (Issue a i) = (i ≡ next J a) × (refusal_of script rules J a i ≡ None)
  in_turn J (Refuse a i reason) = (i ≡ next J a) × (refusal_of script rules J a i ≡ Some reason)
  in_turn J (Enter a i) = (i ≡ next J a) × (refusal_of script rules J a i ≡ None)
  in_turn J (Pass a i) = (i ≡ next J a) × (cond (has_join (statement script a i)) (happened (Entered a i) J ≡ true) (refusal_of script rules J a i ≡ None))
  in_turn J _ = Unit {0}

  pub record Keeps (J : List Event) (e : Event) : Type 0 where
    -- its task, worker, statement and message are there, and have such an event
    pub there : is_there e ≡ true
    -- no event of its kind and name stands before it
    pub once : happened (key_of e) J ≡ false
    -- all that is earlier in its operation stands before it
    pub after : list_all (λ d. happened d J) (needs (key_of e)) ≡ true
    pub jobs : job_turn J e ≡ true
    pub waits : passes J e ≡ true
    pub order : in_turn J e

  -- each event of the journal keeps these, given the journal before it
  unfoldable pub Atomic : List Event → Type 0
  Atomic [] = Unit {0}
  Atomic (e ∷ J) = Keeps J e × Atomic J

  -- The same of a journal in the order of time: each event keeps these, given what stands before it.
  abbrev pub AtomicInTime : List Event → Type 0
  AtomicInTime times = (before after : List Event) (e : Event) → times ≡ before ++ e ∷ after → Keeps (reverse before) e
