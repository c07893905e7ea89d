-- Lanes that ran, and what is told of them.
use Rattle.std.proofs.Common.{◌≡◌, ℕ, ◌≤◌, ◌==◌, Bool, true, false, cond, List, [], length, Option, Ok, Err, Result, refl, sym, subst, ap, inl, inr, ◌∙◌, ◌⊎◌, arith}
use Rattle.std.specs.Prelude.{reverse}
use Rattle.lapi_base.specs.declared.rule.Rules.{Rules}
use Rattle.lapi_base.specs.declared.input.Input.{Input}
use Rattle.lapi_base.specs.declared.input.ReadFault.{ReadFault}
use Rattle.lapi_base.specs.declared.input.ReadFault.TheVariants as faults
use Rattle.lapi_base.specs.declared.input.LineError.TheVariants as why
use Rattle.lapi_base.specs.declared.status.Status.{Status}
use Rattle.lapi_base.specs.declared.status.Status.TheVariants as status
use Rattle.lapi_base.specs.Input.Reading.{Fault, read}
use Rattle.lapi_base.specs.Input.Rows.{IsInputText}
use Rattle.lapi_base.specs.Laws.Headline.{HoldsOfRuns}
use Rattle.lapi_base.specs.Laws.LinesTaken.{TakesValid}
use Rattle.lapi_base.specs.Output.CommandAnswers.{live_answer}
use Rattle.lapi_base.specs.Output.LiveText.{live_text}
use Rattle.lapi_base.specs.Packet.Layout.{layout_of, most_lines}
use Rattle.lapi_base.specs.Packet.PacketBytes.{packet_size}
use Rattle.lapi_base.specs.Packet.Spelling.{spells_packet, refusal}
use Rattle.lapi_base.specs.Record.Atomic.{AtomicInTime}
use Rattle.lapi_base.specs.Record.Lanes.{IsInterleaving, WorkersKeepLanes}
use Rattle.lapi_base.specs.Record.WorldView.{WorldView, acts_of, record_at, record_of}
use Rattle.lapi_base.proofs.LayoutLaws.{most_lines_by}
use Rattle.lapi_live.specs.Rooms.{plan_of_world}
use Rattle.lapi_script.specs.ReaderAnswers.{GivesInput}
use Rattle.lapi_tool.specs.Answered.{refused_answer}
use Rattle.lapi_tool.specs.Live.{IsLiveAnswered, IsLiveReported, LiveTells, TellsLanes, HasRunLanes, live_world_text}
use Rattle.lapi_tool.specs.Outcomes.{CommandGives, IsCutShort, IsSilent, IsUnread, WasRead}
use Rattle.lapi_tool.proofs.Reported.{kept, IsOther}

-- a valid schedule of either layout is short enough for lanes
most : (b : Bool) → cond b 5000 20000 ≤ 20000
most true = omega arith
most false = omega arith

pub few_lines : (layout count : ℕ) → count ≤ most_lines (layout_of layout) → count ≤ 20000
few_lines layout count few =
    let by = most_lines_by layout in
    let at = most (layout == 2) in
    omega (arith, by, at, few)

-- the world that all lanes of an input ran in
same-plan : (w v : WorldView) → plan_of_world w ≡ plan_of_world v → w.spent ≡ false → w ≡ record v { taken = w.taken; spent = false }
same-plan w v plan fresh = ap (λ (s : Bool). record w { spent = s }) fresh ∙ ap (λ (p : WorldView). record p { taken = w.taken; spent = false }) plan

pub has_run : (rules : Rules) (x : Input) (first w : WorldView) → first ≡ record { script = x.script; rules = rules; schedule = x.schedule; taken = []; spent = false }
    → plan_of_world w ≡ plan_of_world first → w.spent ≡ false → IsInterleaving first.schedule w.taken → HasRunLanes rules x w
has_run rules x first w is plan fresh lanes = record {
  world = same-plan w first plan fresh ∙ ap (λ (v : WorldView). record v { taken = w.taken; spent = false }) is;
  interleaved = subst (λ (v : WorldView). IsInterleaving v.schedule w.taken) is lanes;
}

-- what is written of that world is the answer
pub lanes_told : (rules : Rules) (x : Input) (w : WorldView) (held now : Option (List ℕ)) (result : Status) → WorkersKeepLanes x.schedule → HasRunLanes rules x w
    → CommandGives (record { status = status.Ok; text = live_world_text w }) held now result → TellsLanes rules x held now result
lanes_told rules x w held now result apart ran told =
    (apart, (w.taken, ran.interleaved, subst (λ (text : List ℕ). CommandGives (record { status = status.Ok; text = text }) held now result) (ap live_world_text ran.world) told))

-- a fault of the input that is no want of memory
pub live_refused : (rules : Rules) (fault : ReadFault) (reading : Result Input Fault) (held now : Option (List ℕ)) (result : Status) → (fault ≡ faults.Memory → ⊥)
    → GivesInput (Err fault) reading → CommandGives (refused_answer fault) held now result → LiveTells rules reading held now result
live_refused rules (faults.Syntax line) reading held now result other e told = subst (λ r. LiveTells rules r held now result) (sym e) told
live_refused rules (faults.Limit which line) reading held now result other e told = subst (λ r. LiveTells rules r held now result) (sym e) told
live_refused rules faults.Memory reading held now result other e told = absurd (other refl)

module _
    (found : (bytes : List ℕ) (x : Input) → read bytes ≡ Ok x → IsInputText x bytes)
    (in_time : HoldsOfRuns (λ script rules r. AtomicInTime script rules (reverse r.journal)))
    (valid : TakesValid)
    (rules : Rules)
    (left rest held now : Option (List ℕ))
  where
    atomic : (x : Input) (bytes taken : List ℕ) → IsInputText x bytes → AtomicInTime x.script rules (reverse (record_at x.script rules x.schedule taken).journal)
    unfolding record_of
    atomic x bytes taken reads = in_time x.script rules spells_packet packet_size refusal (acts_of x.schedule taken) (valid x.script x.schedule taken reads.schedule)

    of_lanes : (bytes : List ℕ) → WasRead left rest bytes → (x : Input) → read bytes ≡ Ok x → (result : Status) → TellsLanes rules x held now result → result ≡ status.Ok → IsLiveReported rules left rest held now
    of_lanes bytes was x e result (apart, (taken, lanes, inl told)) ok =
        let reads = found bytes x e in
        record {
          bytes = bytes;
          x = x;
          taken = taken;
          read = (was.0, was.2 (kept bytes x e));
          reads = reads;
          interleaved = lanes;
          written = told.1;
          atomic = atomic x bytes taken reads;
        }
    of_lanes bytes was x e result (apart, (taken, lanes, inr cut)) ok = absurd (subst IsCutShort ok cut.0)

    of_input : (bytes : List ℕ) → WasRead left rest bytes → (reading : Result Input Fault) → read bytes ≡ reading → (result : Status) → LiveTells rules reading held now result → result ≡ status.Ok → IsLiveReported rules left rest held now
    of_input bytes was (Ok x) e result (inl told) ok = of_lanes bytes was x e result told ok
    of_input bytes was (Ok x) e result (inr (t, w, n, clash, inl told)) ok = absurd (subst IsOther (sym told.0 ∙ ok) tt)
    of_input bytes was (Ok x) e result (inr (t, w, n, clash, inr cut)) ok = absurd (subst IsCutShort ok cut.0)
    of_input bytes was (Err (why.Syntax, line)) e result (inl told) ok = absurd (subst IsOther (sym told.0 ∙ ok) tt)
    of_input bytes was (Err (why.Limit w, line)) e result (inl told) ok = absurd (subst IsOther (sym told.0 ∙ ok) tt)
    of_input bytes was (Err fault) e result (inr cut) ok = absurd (subst IsCutShort ok cut.0)

    pub live_reported : (asked : Bool) (result : Status) → IsLiveAnswered rules asked left rest held now result → result ≡ status.Ok → IsLiveReported rules left rest held now
    live_reported false result (inl told, same) ok = absurd (subst IsOther (sym told.0 ∙ ok) tt)
    live_reported false result (inr cut, same) ok = absurd (subst IsCutShort ok cut.0)
    live_reported true result (inl silent) ok = absurd (subst IsUnread ok silent.0)
    live_reported true result (inr (bytes, was, told)) ok = of_input bytes was (read bytes) refl result told ok
