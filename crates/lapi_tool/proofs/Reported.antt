-- A report that was written whole is that of an input, whose journal is atomic, and final where the record is quiet.
use Rattle.std.proofs.Common.{◌≡◌, ℕ, ◌≤◌, List, [], ◌∷◌, length, Option, Some, Ok, Err, Result, refl, sym, subst, ap, inl, inr, ◌∙◌}
use Rattle.std.specs.Prelude.{◌↔◌, IsTrue, map, reverse, if◌then◌else◌, MatchResult}
use Rattle.std.specs.List.{AllByRecursion}
use Rattle.std.proofs.lemmas.Bool.{ltb-false, false_from_ne_true}
use Rattle.lapi_base.specs.declared.rule.Rules.{Rules}
use Rattle.lapi_base.specs.declared.command.View.TheVariants.{Report}
use Rattle.lapi_base.specs.declared.input.Input.{Input}
use Rattle.lapi_base.specs.declared.status.Status.{Status}
use Rattle.lapi_base.specs.declared.status.Status.TheVariants as status
use Rattle.lapi_base.specs.declared.command.Command.TheVariants.{Read}
use Rattle.lapi_base.specs.declared.input.Which.TheVariants as which
use Rattle.lapi_base.specs.declared.input.LineError.TheVariants as why
use Rattle.lapi_base.specs.Output.CommandAnswers.{recorded, input_answer, view_text}
use Rattle.lapi_base.specs.Record.Atomic.{AtomicInTime}
use Rattle.lapi_base.specs.Record.Final.{Quiet, QuietIsTested, QuietIsFinal, QuietStays, is_quiet}
use Rattle.lapi_base.specs.Input.Lines.{lines_of}
use Rattle.lapi_base.specs.Input.Reading.{Fault, First, most_input, read, read_from}
use Rattle.lapi_base.specs.Input.Rows.{IsInputText}
use Rattle.lapi_base.specs.Record.WorldView.{record_of}
use Rattle.lapi_base.specs.Packet.Spelling.{spells_packet, refusal}
use Rattle.lapi_base.specs.Record.Valid.{ValidAct, ValidLine}
use Rattle.lapi_base.specs.Packet.PacketBytes.{packet_size}
use Rattle.lapi_base.specs.Laws.Headline.{HoldsOfRuns}
use Rattle.lapi_base.specs.declared.script.Script.{Script}
use Rattle.lapi_base.specs.declared.schedule.Act.{Act}
use Rattle.lapi_base.specs.declared.schedule.Line.{Line}
use Rattle.lapi_tool.specs.Answered.{IsAnswered, IsReported}
use Rattle.lapi_tool.specs.Outcomes.{CommandGives, IsUnread, IsCutShort, WasRead}
use Rattle.lapi_world.specs.Settled.{IsSettled}

err_ok : {A B : Type 0} (e : B) (x : A) → Err e ≡ Ok x → ⊥
err_ok e x h = subst (λ r. MatchResult r (λ _. ⊥) (λ _. Unit {0})) h tt

-- what was read as an input isn't too long
pub kept : (bytes : List ℕ) (x : Input) → read bytes ≡ Ok x → length bytes ≤ most_input
kept bytes x e =
    ltb-false most_input (length bytes) (false_from_ne_true _ (λ long. err_ok _ x (sym (ap (λ b. if b then Err (why.Limit which.Input, 0) else read_from 1 First (lines_of bytes)) long) ∙ e)))

abbrev act_of : Line → Act
act_of line = line.act

acts_valid : (script : Script) (schedule : List Line) → AllByRecursion (ValidLine script spells_packet) schedule → AllByRecursion (ValidAct script spells_packet) (map act_of schedule)
acts_valid script [] h = tt
acts_valid script (line ∷ lines) h = (h.0.1, acts_valid script lines h.1)

-- not the status Ok
abbrev pub IsOther : Status → Type 0
IsOther status.Ok = ⊥
IsOther _ = Unit {0}

module _
    (found : (bytes : List ℕ) (x : Input) → read bytes ≡ Ok x → IsInputText x bytes)
    (in_time : HoldsOfRuns (λ script rules r. AtomicInTime script rules (reverse r.journal)))
    (tested : HoldsOfRuns QuietIsTested)
    (complete : HoldsOfRuns QuietIsFinal)
    (still : HoldsOfRuns QuietStays)
    (rules : Rules)
    (left rest held now : Option (List ℕ))
  where
    -- the journal of an input's record
    atomic : (x : Input) (bytes : List ℕ) → IsInputText x bytes → AtomicInTime x.script rules (reverse (recorded rules x).journal)
    unfolding record_of
    atomic x bytes reads = in_time x.script rules spells_packet packet_size refusal (map act_of x.schedule) (acts_valid x.script x.schedule reads.schedule.lines)

    -- what its test for quiet says, and that all is final where it says yes
    quiet : (x : Input) (bytes : List ℕ) → IsInputText x bytes → IsTrue (is_quiet x.script rules (recorded rules x)) ↔ Quiet x.script rules (recorded rules x)
    unfolding record_of
    quiet x bytes reads = tested x.script rules spells_packet packet_size refusal (map act_of x.schedule) (acts_valid x.script x.schedule reads.schedule.lines)

    settled : (x : Input) (bytes : List ℕ) → IsInputText x bytes → Quiet x.script rules (recorded rules x) → IsSettled x.script rules (recorded rules x)
    unfolding record_of
    settled x bytes reads at =
        let valid = acts_valid x.script x.schedule reads.schedule.lines in
        record {
          final = complete x.script rules spells_packet packet_size refusal (map act_of x.schedule) valid at;
          stays = λ more ok none. still x.script rules spells_packet packet_size refusal (map act_of x.schedule) valid at spells_packet packet_size refusal more ok none;
        }

    of_input : (bytes : List ℕ) → WasRead left rest bytes → (reading : Result Input Fault) → read bytes ≡ reading → (result : Status) → CommandGives (input_answer (view_text Report rules) reading) held now result → result ≡ status.Ok → IsReported rules left rest held now
    of_input bytes taken (Ok x) e result (inl told) ok =
        let reads = found bytes x e in
        record {
          bytes = bytes;
          x = x;
          read = (taken.0, taken.2 (kept bytes x e));
          reads = reads;
          written = told.1;
          atomic = atomic x bytes reads;
          quiet = quiet x bytes reads;
          settled = λ yes. settled x bytes reads ((quiet x bytes reads).0 yes);
        }
    of_input bytes taken (Err (why.Syntax, line)) e result (inl told) ok = absurd (subst IsOther (sym told.0 ∙ ok) tt)
    of_input bytes taken (Err (why.Limit w, line)) e result (inl told) ok = absurd (subst IsOther (sym told.0 ∙ ok) tt)
    of_input bytes taken reading e result (inr cut) ok = absurd (subst IsCutShort ok cut.0)

    pub reported : (result : Status) → IsAnswered rules (Some (Read Report)) left rest held now result → result ≡ status.Ok → IsReported rules left rest held now
    reported result (inl silent) ok = absurd (subst IsUnread ok silent.0)
    reported result (inr (bytes, taken, told)) ok = of_input bytes taken (read bytes) refl result told ok
