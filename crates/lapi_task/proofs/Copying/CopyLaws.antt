-- The copy of a statement's data: what its task and its record have then.
use Rattle.std.proofs.Common.{◌≡◌, ℕ, ◌+◌, ◌*◌, ◌<◌, ◌≤◌, ◌==◌, Bool, true, false, cond, not, ◌&&◌, List, [], ◌∷◌, ◌++◌, map, length, set, Option, Some, None, refl, sym, ap, ◌∙◌, subst, arith}
use Rattle.std.specs.Prelude.{slice_get, slice_index, slice_set}
use Rattle.std.specs.List.{AllByRecursion, flat_map}
use Rattle.std.proofs.lemmas.Bool.{cond-true}
use Rattle.std.proofs.lemmas.List.Elements.{All-from_recursion}
use Rattle.std.proofs.Math.ListN.{length-set}
use Rattle.lapi_base.specs.declared.piece.Piece.{Piece}
use Rattle.lapi_base.specs.declared.span.Span.{Span}
use Rattle.lapi_base.specs.declared.script.Script.{Script}
use Rattle.lapi_base.specs.declared.rule.Rules.{Rules}
use Rattle.lapi_base.specs.declared.statement.Statement.{Statement}
use Rattle.lapi_base.specs.declared.event.Event.{Event}
use Rattle.lapi_base.specs.declared.event.Event.TheVariants.{Copy}
use Rattle.lapi_base.specs.declared.message.Leg.TheVariants.{Go}
use Rattle.lapi_base.specs.declared.message.MsgName.{MsgName}
use Rattle.lapi_base.specs.Record.Below.{below}
use Rattle.lapi_base.specs.Record.Counters.{count, reads, tells, is_counter}
use Rattle.lapi_base.specs.Laws.Entries.{carried}
use Rattle.lapi_base.specs.declared.layout.TheConstants.{PAYLOAD_ROOM}
use Rattle.lapi_base.specs.Packet.Layout.{layout_of, unit, unit_of, longest_of}
use Rattle.lapi_base.specs.Record.Names.{message, name_eq, happened, Issued, Copied}
use Rattle.lapi_base.specs.Record.Operations.{numbers_below, statement, statements, is_data, has_back, has_join, target, message_length, fragment_count, address, spans, origin_pieces, org_counter}
use Rattle.lapi_base.specs.Record.Packets.{data_packet}
use Rattle.lapi_base.specs.Record.Valid.{ValidStatement}
use Rattle.lapi_base.specs.Laws.Receiving.{NamesCounter}
use Rattle.lapi_base.specs.Record.Wires.{Run}
use Rattle.lapi_base.specs.Record.Refusals.{next, refusals, option_any}
use Rattle.lapi_base.specs.Record.Acts.{followed, to_copy_of}
use Rattle.lapi_base.specs.Record.Atomic.{Atomic}
use Rattle.lapi_base.specs.Packet.Spelling.{HasSpelling}
use Rattle.lapi_base.specs.Record.Values.{values, memory_bytes, gathered, at_origin}
use Rattle.lapi_base.specs.Packet.PacketBytes as written
use Rattle.lapi_base.proofs.LayoutLaws.{longest-fragments}
use Rattle.lapi_base.proofs.ListLaws.{all-map}
use Rattle.lapi_base.proofs.NameLaws.{happened-head, happened-other, name_eq-refl}
use Rattle.lapi_base.proofs.TestLaws.{eqb-refl}
use Rattle.lapi_calls.specs.Calls.{IsCall, IsSendable}
use Rattle.lapi_calls.specs.Entries.{AreGiven}
use Rattle.lapi_collect.specs.declared.rounds.TheConstants.{MOST_ROUNDS}
use Rattle.lapi_laws.proofs.Backward.{Atomic-tail}
use Rattle.lapi_laws.proofs.Shorts.{copied-short}
use Rattle.lapi_link.specs.Sender.{SendingEnd}
use Rattle.lapi_memory.specs.TaskMemory.{bytes_at}
use Rattle.lapi_parts.proofs.Accepted.{Accepted, LiesWithin, copied-accepted}
use Rattle.lapi_parts.proofs.CarriedLengths.{carried-length}
use Rattle.lapi_parts.proofs.SmallBytes.{statement-valid}
use Rattle.lapi_parts.proofs.SpelledPackets.{message-spelled}
use Rattle.lapi_reassembly.specs.Partial.{IsUnit}
use Rattle.lapi_vector.specs.Pieces.{AreWithin}
use Rattle.lapi_task.specs.declared.copy.DataCopy.{DataCopy}
use Rattle.lapi_task.specs.declared.state.State.{State}
use Rattle.lapi_task.specs.declared.task.Task.{Task}
use Rattle.lapi_task.specs.declared.collective.Collective.{Collective}
use Rattle.lapi_task.specs.Copies.{copy_of, copies_of, source, IsCopyable, IsCopied, CopiesNext, IsPopped, HasCopied}
use Rattle.lapi_task.specs.Counting.{announced}
use Rattle.lapi_task.specs.Outgoing.{with_message, AreSpelled}
use Rattle.lapi_task.specs.StandsFor.{is_uncopied, task_unit, SenderAt, ReceiverAt, HasCalls, HoldsFor, StandsFor}
use Rattle.lapi_task.proofs.Copying.CallsStay.{calls-kept}
use Rattle.lapi_task.proofs.Copying.CopyFirst.{first-is, uncopied-then, no-statement, found}
use Rattle.lapi_task.proofs.Copying.CopyLists.{copies, followed-one}
use Rattle.lapi_task.proofs.Copying.CopySendable.{may-send}
use Rattle.lapi_task.proofs.Joining.KnownRounds.{knows_round, address_given, are-given, passed-complete}
use Rattle.lapi_task.proofs.Joining.RoundsStay.{rounds-stay}
use Rattle.lapi_task.proofs.Copying.UncopiedLaws.{waiting-data}
use Rattle.lapi_task.proofs.Copying.Units.{unit-sizes}
use Rattle.lapi_task.proofs.Working.JobsStay.{jobs-stay}
use Rattle.lapi_task.proofs.Copying.MessageCopies.{packet-is, count-is, copied-ends}
use Rattle.lapi_task.proofs.Receiving.ReceiveCounts.{announced-length, announced-at}
use Rattle.lapi_task.proofs.Stepping.StepMemories.{read-over, memory-none, memory-length}
use Rattle.lapi_base.specs.Record.Fragments.{fragments_in}
use Rattle.lapi_task.specs.declared.unfinished.Unfinished.{Unfinished}
use Rattle.lapi_task.specs.Unfinished.{Tracks}
use Rattle.lapi_task.proofs.Acknowledging.UnfinishedLaws.{tracks-copied}

-- the unit of a task is its script's
pub unit-is : (script : Script) (rules : Rules) (t : ℕ) (task : Task) → HasCalls script rules t task → task_unit task ≡ unit_of script
unfolding unit_of
unit-is script rules t task h = ap (λ (x : _). unit (layout_of x.layout)) h.sizes

-- the bytes of these pieces are those of the record
pieces-gathered : (script : Script) (d : ℕ) (f : ℕ → ℕ) (ps : List Piece) → AllByRecursion (LiesWithin script d) ps → flat_map (λ (p : Span). bytes_at (map f (numbers_below script.memory)) p.at p.len) (spans script d ps) ≡ flat_map (λ (p : Span). map (λ k. f (p.at + k)) (numbers_below p.len)) (spans script d ps)
pieces-gathered script d f [] h = refl
pieces-gathered script d f (p ∷ ps) h = λ k. read-over f script.memory (address script d p.at) p.len h.0 k ++ pieces-gathered script d f ps h.1 k

-- and the pieces lie within a memory of the script's size
pieces-within : (script : Script) (d size : ℕ) (b : Bool) (ps : List Piece) → size ≡ script.memory → AllByRecursion (LiesWithin script d) ps → AreWithin (cond b [] (spans script d ps)) size
pieces-within script d size b ps same h = All-from_recursion (λ (p : Span). p.at + p.len ≤ size) (cond b [] (spans script d ps)) (subst (λ (n : ℕ). AllByRecursion (λ (p : Span). p.at + p.len ≤ n) (cond b [] (spans script d ps))) (sym same) (either b))
  where
    either : (b : Bool) → AllByRecursion (λ (p : Span). p.at + p.len ≤ script.memory) (cond b [] (spans script d ps))
    either true = tt
    either false = all-map (LiesWithin script d) (λ (p : Span). p.at + p.len ≤ script.memory) (λ (p : Piece). record { at = address script d p.at; len = p.len }) ps h (λ p l. l)

-- a counter that is announced is there
counter-named : (script : Script) (b : Bool) (o : Option ℕ) (c : ℕ) → NamesCounter script o → cond b None o ≡ Some c → c < script.counters
counter-named script true o c h e = absurd (cc)
counter-named script false o c h e = subst (NamesCounter script) e h

-- The bytes of the copy are what the message carries.
module _ (script : Script) (rules : Rules) (t i : ℕ) where
  abbrev m : MsgName
  m = message t i Go

  abbrev s : Statement
  s = statement script t i

  abbrev from : List Span
  from = at_origin script rules t i

  carried-is : (J : List Event) → carried script rules (Copy m ∷ J) m ≡ cond (has_back s) [] (gathered (values script rules J).memory t from)
  unfolding values
  carried-is J = cond-true (name_eq m m) _ ((values script rules J).bytes m) (name_eq-refl m)

  pub source-is : (J : List Event) (memory : List ℕ) → memory ≡ memory_bytes script rules J t → AllByRecursion (LiesWithin script (target script t i)) (origin_pieces s) → source memory (copy_of script t i) ≡ carried script rules (Copy m ∷ J) m
  unfolding memory_bytes gathered
  source-is J memory h within = ap (λ (xs : List ℕ). source xs (copy_of script t i)) h ∙ either (has_back s) ∙ sym (carried-is J)
    where
      either : (b : Bool) → flat_map (λ (p : Span). bytes_at (memory_bytes script rules J t) p.at p.len) (cond b [] from) ≡ cond b [] (gathered (values script rules J).memory t from)
      either true = refl
      either false = pieces-gathered script (target script t i) ((values script rules J).memory t) (origin_pieces s) within

-- ---- the task

-- what a task has but for its data that are not done
record StandsBut (script : Script) (rules : Rules) (t : ℕ) (task : Task) (r : Run) : Type 0 where
  pub calls : HasCalls script rules t task
  pub holds : HoldsFor script rules t task.state r.journal
  pub sender_count : length task.senders.items ≡ script.tasks
  pub receiver_count : length task.receivers.items ≡ script.tasks
  pub senders : (b : ℕ) → b < script.tasks → SenderAt script rules r t b (slice_get task.senders.items b)
  pub receivers : (a : ℕ) → a < script.tasks → ReceiverAt script rules (r.handed a t) (slice_get task.receivers.items a)
  pub owed_count : length task.owed.items ≡ script.tasks
  pub owed : (a : ℕ) → a < script.tasks → slice_get task.owed.items a ≡ Some (r.owed a t)

module _ (script : Script) (rules : Rules) (t : ℕ) (task : Task) (r : Run) (i : ℕ) (rest : List ℕ) (h : CopiesNext script rules t task r i rest) (plain : has_join (statement script t i) ≡ false) where
  abbrev go : MsgName
  go = message t i Go

  abbrev L : List Event
  L = Copy go ∷ r.journal

  within-list : i < length (statements script t)
  within-list = (first-is script rules t task r i rest h).0

  waiting : (is_data (statement script t i) ≡ true) × (happened (Issued t i) r.journal ≡ true) × (happened (Copied go) r.journal ≡ false) × (to_copy_of script r.journal t i ≡ go ∷ [])
  waiting = waiting-data script t r.journal i plain (first-is script rules t task r i rest h).1

  -- its data are all that is copied
  pub copies-are : copies_of script r.journal t i ≡ Copy go ∷ []
  copies-are = ap copies waiting.3

  then-is : followed r.journal (copies_of script r.journal t i) ≡ L
  then-is = ap (followed r.journal) copies-are ∙ followed-one r.journal (Copy go)

  atomic : Atomic script rules L
  atomic = subst (Atomic script rules) then-is h.atomic

  -- no reason holds against the statement,
  unrefused : Accepted script rules (target script t i) (statement script t i)
  unrefused = copied-accepted script rules L go atomic (happened-head (Copy go) r.journal)

  short : message_length script go ≤ 64 * unit_of script
  unfolding unit_of longest_of
  short = subst (λ n. message_length script go ≤ n) (longest-fragments (layout_of script.layout)) (copied-short script rules L go atomic (happened-head (Copy go) r.journal))

  -- and it may be sent.
  abbrev known : Collective
  known = task.state.collective

  before : Atomic script rules r.journal
  before = Atomic-tail script rules (Copy go) r.journal atomic

  given : AreGiven script (knows_round known) (address_given known)
  given = are-given script rules h.stands.calls.valid r.journal before t h.known known h.stands.holds.rounds

  is-sendable : IsSendable (knows_round known) (address_given known) t (statement script t i)
  is-sendable =
      may-send script rules (knows_round known) (address_given known) given t i r.journal h.stands.calls.valid atomic waiting.1
      (passed-complete script rules h.stands.calls.valid r.journal before t h.known known h.stands.holds.rounds)

  abbrev copy : DataCopy
  copy = copy_of script t i

  pub counters-then : (counters : List ℕ) → length counters ≡ script.counters → ((c : ℕ) → c < script.counters → slice_index counters c ≡ count script rules r.journal t c) → (c : ℕ) → c < script.counters → slice_index (announced counters copy.counter) c ≡ count script rules L t c
  unfolding count tells
  counters-then counters size at c l =
      announced-at counters copy.counter c (subst (λ n. c < n) (sym size) l)
      ∙ ap (λ n. n + cond (option_any (λ d. d == c) copy.counter) 1 0) (at c l)
      ∙ ap (λ b. count script rules r.journal t c + cond b 1 0) (told (has_back (statement script t i)) (org_counter (statement script t i)))
    where
      told : (b : Bool) (o : Option ℕ) → option_any (λ d. d == c) (cond b None o) ≡ (not b && is_counter o t t c)
      told true o = refl
      told false None = refl
      told false (Some d) = sym (ap (λ b. b && d == c) (eqb-refl t))

  carries : source task.state.memory copy ≡ carried script rules L go
  carries = source-is script rules t i r.journal task.state.memory h.stands.holds.memory unrefused.from

  unit-here : task_unit task ≡ unit_of script
  unit-here = unit-is script rules t task h.stands.calls

  -- What a poll has to know of the data before it copies them.
  source-spelled : AreSpelled (unit_of script) copy.message (carried script rules L go)
  source-spelled n j ln lj =
      let count : j < fragment_count script go = subst (λ (k : ℕ). j < k) (sym (count-is script rules go)) lj in
      subst HasSpelling (packet-is script rules go n j (carried script rules L go))
      (written.packet (data_packet script go n j (carried script rules L go)), message-spelled script rules h.stands.calls.valid h.stands.calls.rules_valid L go n j atomic (happened-head (Copy go) r.journal) ln count)

  copyable-then : IsCopyable (task_unit task) task copy
  copyable-then =
      record {
        target = subst (λ n. target script t i < n) (sym h.stands.sender_count) unrefused.target;
        within = pieces-within script (target script t i) (length task.state.memory) (has_back (statement script t i)) (origin_pieces (statement script t i)) (ap length h.stands.holds.memory ∙ memory-length script rules r.journal t) unrefused.from;
        size = subst (λ (u : ℕ). IsUnit u × (u ≤ PAYLOAD_ROOM)) (sym unit-here) (unit-sizes script);
        long = (ap length carries ∙ carried-length script rules L go atomic (happened-head (Copy go) r.journal), subst (λ (u : ℕ). message_length script go ≤ 64 * u) (sym unit-here) short);
        counter = λ c at. subst (λ n. c < n) (sym h.stands.holds.counter_count) (counter-named script (has_back (statement script t i)) (org_counter (statement script t i)) c unrefused.org at);
        spelled =
            subst (λ (u : ℕ). AreSpelled u copy.message (source task.state.memory copy)) (sym unit-here)
            (subst (AreSpelled (unit_of script) copy.message) (sym carries) source-spelled);
      }

  pub copyable : (popped : Task) → IsPopped task popped rest → IsCopyable (task_unit popped) popped copy
  copyable popped p = subst (λ (x : Task). IsCopyable (task_unit x) x copy) (sym p.others) (record {
    target = copyable-then.target;
    within = copyable-then.within;
    size = copyable-then.size;
    long = copyable-then.long;
    counter = copyable-then.counter;
    spelled = copyable-then.spelled;
  })

  -- What stands then.
  holds-then : (after : State) → after ≡ record task.state { uncopied = after.uncopied; counters = after.counters } → after.uncopied.items ≡ rest → after.counters ≡ announced task.state.counters copy.counter → HoldsFor script rules t after L
  unfolding next refusals reads
  holds-then after same list counters =
      let g = h.stands.holds in record {
        number = ap (λ (x : State). x.number) same ∙ g.number;
        next = ap (λ (x : State). x.next) same ∙ g.next;
        ahead = λ k l. happened-other (Issued t k) (Copy go) r.journal refl ∙ g.ahead k (subst (λ n. n ≤ k) (ap (λ (x : State). x.next) same) l);
        reads = ap (λ (x : State). x.reads.items) same ∙ g.reads;
        refusals = ap (λ (x : State). x.refusals.items) same ∙ g.refusals;
        memory = ap (λ (x : State). x.memory) same ∙ g.memory ∙ sym (memory-none script rules (Copy go) r.journal t refl);
        counter_count = ap length counters ∙ announced-length task.state.counters copy.counter ∙ g.counter_count;
        counters = λ c l. ap (λ xs. slice_index xs c) counters ∙ counters-then task.state.counters g.counter_count g.counters c l;
        uncopied = list ∙ sym (uncopied-then script rules t task r i rest h) ∙ ap (λ K. below (length (statements script t)) (is_uncopied script K t)) then-is;
        jobs = jobs-stay script rules t (Copy go) r.journal task.state.jobs after.jobs tt (ap (λ (x : State). x.jobs) same) g.jobs;
        rounds = rounds-stay script t (Copy go) r.journal (record { entered = λ _. refl; landed = λ _ _. refl }) task.state.collective after.collective (ap (λ (x : State). x.collective) same) refl g.rounds;
      }

  tracks-then : Tracks script rules t (record task.unfinished { left = slice_set task.unfinished.left i (fragment_count script go) }) (record r { journal = L })
  tracks-then = tracks-copied script rules t task.unfinished r i atomic within-list waiting.2 h.told h.stands.unfinished

  -- there is a count for it
  pub has-count : i < length task.unfinished.left
  has-count = let l = within-list in let n = h.stands.unfinished.size.1 in omega (arith, l, n)

  copied-stands : (popped after : Task) → IsPopped task popped rest → IsCopied (task_unit popped) copy popped after → StandsBut script rules t after (record r { journal = L })
  copied-stands popped after p g =
      let to = target script t i in
      let unit-then : task_unit popped ≡ unit_of script = ap task_unit p.others ∙ unit-here in
      let list = ap (λ (x : Task). x.state.uncopied) g.rest in
      let state : after.state ≡ record task.state { uncopied = after.state.uncopied; counters = after.state.counters } =
      ap (λ (x : Task). x.state) g.rest
      ∙ (λ k. record { number = (p.others k).state.number; next = (p.others k).state.next; memory = (p.others k).state.memory; counters = after.state.counters; reads = (p.others k).state.reads; refusals = (p.others k).state.refusals; uncopied = sym list k; jobs = (p.others k).state.jobs; collective = (p.others k).state.collective }) in
      let ends = ap (λ (x : Task). x.senders.items) p.others in
      let senders : after.senders.items ≡ set task.senders.items to g.sender = g.senders ∙ ap (λ (xs : List SendingEnd). set xs to g.sender) ends in
      let receivers : after.receivers.items ≡ task.receivers.items = ap (λ (x : Task). x.receivers.items) g.rest ∙ ap (λ (x : Task). x.receivers.items) p.others in
      let owed : after.owed.items ≡ task.owed.items = ap (λ (x : Task). x.owed.items) g.rest ∙ ap (λ (x : Task). x.owed.items) p.others in
      record {
        calls =
            calls-kept script rules t task after
            (ap (λ (x : Task). x.sizes) g.rest ∙ ap (λ (x : Task). x.sizes) p.others)
            (ap (λ (x : Task). x.statements) g.rest ∙ ap (λ (x : Task). x.statements) p.others)
            (ap (λ (x : Task). x.limits) g.rest ∙ ap (λ (x : Task). x.limits) p.others)
            (ap (λ (x : Task). x.rounds.items) g.rest ∙ ap (λ (x : Task). x.rounds.items) p.others)
            h.stands.calls;
        holds = holds-then after.state state (ap (λ (x : _). x.items) list ∙ p.list) (g.counters ∙ ap (λ (x : Task). announced x.state.counters copy.counter) p.others);
        sender_count = ap length senders ∙ length-set task.senders.items to g.sender ∙ h.stands.sender_count;
        receiver_count = ap length receivers ∙ h.stands.receiver_count;
        senders = copied-ends script rules go r t task.senders.items after.senders.items g.sender (source task.state.memory copy) refl copyable-then.target senders atomic carries
            (λ s at.
            g.change s (ap (λ (xs : List SendingEnd). slice_get xs to) ends ∙ at)
            ∙ (λ k. with_message (unit-then k) copy.message (source (p.others k).state.memory copy) s))
            h.stands.senders;
        receivers = λ a l. subst (λ (xs : List _). ReceiverAt script rules (r.handed a t) (slice_get xs a)) (sym receivers) (h.stands.receivers a l);
        owed_count = ap length owed ∙ h.stands.owed_count;
        owed = λ a l. ap (λ (xs : List Bool). slice_get xs a) owed ∙ h.stands.owed a l;
      }

  -- after its fragments were counted
  pub copied-counted : (popped after : Task) (count : ℕ) → IsPopped task popped rest → IsCopied (task_unit popped) copy popped after → count ≡ fragments_in (task_unit popped) copy.message.length → StandsFor script rules t (record after { unfinished = record after.unfinished { left = slice_set after.unfinished.left i count } }) (record r { journal = L })
  copied-counted popped after count p g counted =
      let same : after.unfinished ≡ task.unfinished = ap (λ (x : Task). x.unfinished) g.rest ∙ ap (λ (x : Task). x.unfinished) p.others in
      let size : count ≡ fragment_count script go = counted ∙ ap (λ (u : ℕ). fragments_in u copy.message.length) (ap task_unit p.others ∙ unit-here) ∙ sym (count-is script rules go) in
      let s = copied-stands popped after p g in
      record {
        calls = calls-kept script rules t after (record after { unfinished = record after.unfinished { left = slice_set after.unfinished.left i count } }) refl refl refl refl s.calls;
        holds = s.holds;
        unfinished = subst (λ (u : Unfinished). Tracks script rules t u (record r { journal = L })) (λ k. record { undone = (sym same k).undone; left = slice_set (sym same k).left i (sym size k) }) tracks-then;
        sender_count = s.sender_count;
        receiver_count = s.receiver_count;
        senders = s.senders;
        receivers = s.receivers;
        owed_count = s.owed_count;
        owed = s.owed;
      }

  -- ---- the task whose list lacks the number

  module _ (popped : Task) (p : IsPopped task popped rest) where
    pub popped-number : popped.state.number ≡ t
    popped-number = ap (λ (x : Task). x.state.number) p.others ∙ h.stands.holds.number

    pub popped-asked : length popped.state.collective.tables.rounds ≡ MOST_ROUNDS
    popped-asked = ap (λ (x : Task). length x.state.collective.tables.rounds) p.others ∙ h.stands.holds.rounds.tables.size

    popped-layout : popped.sizes.layout ≡ script.layout
    popped-layout = ap (λ (x : Task). x.sizes.layout) p.others ∙ ap (λ (x : _). x.layout) h.stands.calls.sizes

    popped-statements : popped.statements ≡ statements script t
    popped-statements = ap (λ (x : Task). x.statements) p.others ∙ h.stands.calls.statements

    -- finds the statement,
    pub popped-some : (o : Option Statement) → o ≡ slice_get popped.statements i → o ≡ None → ⊥
    popped-some o made is = no-statement script t i popped.statements popped-statements within-list o made is

    module _ (s : Statement) (at : Some s ≡ slice_get popped.statements i) where
      same : s ≡ statement script t i
      same = found script t i popped.statements popped-statements within-list s at

      -- which may be copied,
      pub found-data : ValidStatement s × (is_data s ≡ true)
      found-data = subst (λ (s : Statement). ValidStatement s × (is_data s ≡ true)) (sym same) (statement-valid script h.stands.calls.valid t i, waiting.0)

      pub found-sendable : IsSendable (knows_round popped.state.collective) (address_given popped.state.collective) popped.state.number s
      found-sendable =
          subst (λ (x : Task). IsSendable (knows_round x.state.collective) (address_given x.state.collective) x.state.number s) (sym p.others)
          (subst (λ (a : ℕ). IsSendable (knows_round known) (address_given known) a s) (sym h.stands.holds.number)
          (subst (IsSendable (knows_round known) (address_given known) t) (sym same) is-sendable))

      -- and its copy is the record's.
      pub found-copy : (c : DataCopy) → ((script : Script) → popped.sizes.layout ≡ script.layout → IsCall script (knows_round popped.state.collective) (address_given popped.state.collective) popped.state.number i s → c ≡ copy_of script popped.state.number i) → c ≡ copy_of script t i
      found-copy c made =
          made script popped-layout (record {
            is_statement = same ∙ ap (λ a. statement script a i) (sym popped-number);
            are_given = subst (λ (x : Task). AreGiven script (knows_round x.state.collective) (address_given x.state.collective)) (sym p.others) given;
          })
          ∙ ap (λ a. copy_of script a i) popped-number

    -- After the copy, what was told of its fragments, and the event:
    pub has-copied : (after : Task) (u : Unfinished) (old new : List Event) → IsCopied (task_unit popped) copy popped after → (count : ℕ) → count ≡ fragments_in (task_unit popped) copy.message.length → u ≡ record after.unfinished { left = slice_set after.unfinished.left i count } → new ≡ old ++ Copy go ∷ [] → HasCopied script rules t r i rest (record after { unfinished = u }) old new
    has-copied after u old new g count counted same put = record {
      added = put ∙ ap (λ (es : List Event). old ++ es) (sym copies-are);
      left = ap (λ (x : Task). x.state.uncopied.items) g.rest ∙ p.list;
      stands =
          subst (λ (K : List Event). StandsFor script rules t (record after { unfinished = u }) (record r { journal = K })) (sym then-is)
          (subst (λ (v : Unfinished). StandsFor script rules t (record after { unfinished = v }) (record r { journal = L })) (sym same)
          (copied-counted popped after count p g counted));
    }
