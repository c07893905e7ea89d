-- What is spelled as an audit's text within the limits is read.
use Rattle.std.proofs.Common.{◌≡◌, ℕ, ◌+◌, ◌≤◌, List, [], ◌∷◌, ◌++◌, length, map, refl, sym, ap, ◌∙◌, subst, Bool, true, false, cond, Result, Ok, Err, inl, inr, arith, append_assoc, nat_lt, nat_le}
use Rattle.std.specs.Prelude.{codes, ◌⊎◌, not, IsTrue}
use Rattle.std.specs.List.{AllByRecursion}
use Rattle.std.proofs.lemmas.List.{append-nil, length-append}
use Rattle.std.proofs.lemmas.Bool.{lt-ltb}
use Rattle.lapi_base.specs.declared.input.LineError.{LineError}
use Rattle.lapi_base.specs.declared.input.LineError.TheVariants.{Syntax}
use Rattle.lapi_base.specs.declared.input.Which.TheVariants as which
use Rattle.lapi_base.specs.declared.event.Event.{Event}
use Rattle.lapi_base.specs.declared.event.Event.TheVariants.{Issue, Refuse, Enter, Pass, Copy, Head, Land, Begin, End}
use Rattle.lapi_base.specs.declared.schedule.Line.{Line}
use Rattle.lapi_base.specs.declared.script.Script.{Script}
use Rattle.lapi_base.specs.declared.input.Input.{Input}
use Rattle.lapi_base.specs.declared.audit_input.AuditInput.{AuditInput}
use Rattle.lapi_base.specs.Packet.Layout.{layout_of, most_lines}
use Rattle.lapi_base.specs.Input.Lines.{words_of, is_clean, is_skipped, read_words}
use Rattle.lapi_base.specs.Input.Tokens.{number_of, value_of}
use Rattle.lapi_base.specs.Input.Forms.{run, and_then, head_form, sizes_form, task_line_form, line_form}
use Rattle.lapi_base.specs.Input.Rows.{Column, IsRow, done_row, script_rows}
use Rattle.lapi_base.specs.Input.Reading as reading
use Rattle.lapi_base.specs.Input.Reading.{State, step, within, on_line, is_word, names_known, keeps_injected, with_task}
use Rattle.lapi_base.specs.Input.AuditForms.{event_line_form}
use Rattle.lapi_base.specs.Input.AuditRows.{event_row, IsOfRequest, journal_row, audit_rows, most_events, IsAuditRead}
use Rattle.lapi_base.specs.Input.AuditReading.{AuditState, Before, Events, Ended, audit_step, audit_after, read_audit_from}
use Rattle.lapi_text.proofs.Parts.{chosen}
use Rattle.lapi_text.proofs.Rules.{err_ok, same_Ok, bound, said}
use Rattle.lapi_text.proofs.AuditRules.{event_matches}
use Rattle.lapi_text.proofs.Sound.{allowed, passed, Fits, input_with, is_one_word}
use Rattle.lapi_text.proofs.Complete.{Spells, steps, all_run, one_word}
use Rattle.lapi_text.proofs.AuditSound.{IsScript, AuditFits, audit_with}

-- the state after the lines with these words
abbrev pub audit_steps : AuditState → List (List (List ℕ)) → Result AuditState LineError
audit_steps state [] = Ok state
audit_steps state (words ∷ more) = and_then (audit_step state words) (λ next. audit_steps next more)

audit_reads_all : (l : ℕ) (state : AuditState) (lines : List (List ℕ)) (x : AuditInput) → AllByRecursion (λ line. IsTrue (is_clean line)) lines → audit_steps state (read_words lines) ≡ Ok (Ended x)
    → read_audit_from l state lines ≡ Ok x
unfolding audit_after
audit_reads_all l state [] x clean e = rw (same_Ok state (Ended x) e) refl
audit_reads_all l state (line ∷ lines) x clean e = at (is_skipped (words_of line)) refl e (λ next. audit_reads_all (l + 1) next lines x clean.1)
  where
    at : (b : Bool) → is_skipped (words_of line) ≡ b → audit_steps state (cond (not b) (words_of line ∷ read_words lines) (read_words lines)) ≡ Ok (Ended x)
        → ((next : AuditState) → audit_steps next (read_words lines) ≡ Ok (Ended x) → read_audit_from (l + 1) next lines ≡ Ok x) → read_audit_from l state (line ∷ lines) ≡ Ok x
    at true skipped h rest = rw (clean.0, skipped) (rest state h)
    at false skipped h rest =
        let n = bound (audit_step state (words_of line)) (λ next. audit_steps next (read_words lines)) (Ended x) h in
        rw (clean.0, skipped, n.1) (rest n.0 n.2)

-- ---- words of some rows, and of others behind them

record Parted (rows rest : List (List Column)) (wordss : List (List (List ℕ))) : Type 0 where
  front : List (List (List ℕ))
  left : List (List (List ℕ))
  whole : wordss ≡ front ++ left
  spelled : Spells rows front
  more : Spells rest left

parted : (rows rest : List (List Column)) (wordss : List (List (List ℕ))) → Spells (rows ++ rest) wordss → Parted rows rest wordss
parted [] rest wordss z = record { front = []; left = wordss; whole = refl; spelled = tt; more = z }
parted (row ∷ rows) rest [] z = absurd z
parted (row ∷ rows) rest (words ∷ wordss) z =
    let p = parted rows rest wordss z.1 in
    record { front = words ∷ p.front; left = p.left; whole = ap (λ w. words ∷ w) p.whole; spelled = (z.0, p.spelled); more = p.more }

joined : (rows rest : List (List Column)) (front left : List (List (List ℕ))) → Spells rows front → Spells rest left → Spells (rows ++ rest) (front ++ left)
joined [] rest [] left a b = b
joined [] rest (words ∷ front) left a b = absurd a
joined (row ∷ rows) rest [] left a b = absurd a
joined (row ∷ rows) rest (words ∷ front) left a b = (a.0, joined rows rest front left a.1 b)

steps_on : (front more : List (List (List ℕ))) (state : State) → steps state (front ++ more) ≡ and_then (steps state front) (λ next. steps next more)
steps_on [] more state = refl
steps_on (words ∷ front) more state = at (step state words) (λ next. steps_on front more next)
  where
    at : (r : Result State LineError) → ((next : State) → steps next (front ++ more) ≡ and_then (steps next front) (λ n. steps n more))
        → and_then r (λ next. steps next (front ++ more)) ≡ and_then (and_then r (λ next. steps next front)) (λ n. steps n more)
    at (Ok next) on = on next
    at (Err e) on = refl

audit_steps_on : (front more : List (List (List ℕ))) (state : AuditState) → audit_steps state (front ++ more) ≡ and_then (audit_steps state front) (λ next. audit_steps next more)
audit_steps_on [] more state = refl
audit_steps_on (words ∷ front) more state = at (audit_step state words) (λ next. audit_steps_on front more next)
  where
    at : (r : Result AuditState LineError) → ((next : AuditState) → audit_steps next (front ++ more) ≡ and_then (audit_steps next front) (λ n. audit_steps n more))
        → and_then r (λ next. audit_steps next (front ++ more)) ≡ and_then (and_then r (λ next. audit_steps next front)) (λ n. audit_steps n more)
    at (Ok next) on = on next
    at (Err e) on = refl

-- ---- the script, as of an input without lines

input_at : State → Input → Input
input_at (reading.Finished x) y = x
input_at reading.First y = y
input_at (reading.Second layout) y = y
input_at (reading.Start script) y = y
input_at (reading.Tasks script current) y = y
input_at (reading.Lines script schedule) y = y

-- `done` ends a schedule alone
done_ends : (state : State) (x : Input) → step state (codes "done" ∷ []) ≡ Ok (reading.Finished x) → state ≡ reading.Lines x.script x.schedule
unfolding step head_form sizes_form task_line_form input_at
done_ends reading.First x e = absurd (err_ok Syntax _ e)
done_ends (reading.Second layout) x e = absurd (err_ok Syntax _ e)
done_ends (reading.Start script) x e = absurd (err_ok Syntax _ e)
done_ends (reading.Tasks script current) x e = absurd (err_ok Syntax _ e)
done_ends (reading.Lines script schedule) x e =
    let y = input_with script schedule in
    ap (λ (z : Input). reading.Lines z.script z.schedule) (ap (λ s. input_at s y) (same_Ok (reading.Finished y) (reading.Finished x) e))
done_ends (reading.Finished y) x e = absurd (err_ok Syntax _ e)

-- `schedule` ends a script alone
schedule_ends : (state next : State) → step state (codes "schedule" ∷ []) ≡ Ok next → IsScript state
unfolding step line_form value_of number_of
schedule_ends reading.First next e = tt
schedule_ends (reading.Second layout) next e = tt
schedule_ends (reading.Start script) next e = tt
schedule_ends (reading.Tasks script current) next e = tt
schedule_ends (reading.Lines script schedule) next e = absurd (err_ok Syntax next e)
schedule_ends (reading.Finished x) next e = absurd (err_ok Syntax next e)

-- behind the script's rows the line `schedule` begins a schedule
record ScriptRun (s : Script) (front : List (List (List ℕ))) : Type 0 where
  mid : State
  run_to : steps reading.First front ≡ Ok mid
  is : IsScript mid
  ends : step mid (codes "schedule" ∷ []) ≡ Ok (reading.Lines s [])

script_run : (s : Script) (front : List (List (List ℕ))) → Fits (input_with s []) → Spells (script_rows s) front → ScriptRun s front
script_run s front fits z =
    let tail : List (List (List ℕ)) = (codes "schedule" ∷ []) ∷ (codes "done" ∷ []) ∷ [] in
    let whole = all_run s s.lists [] (front ++ tail) fits (joined (script_rows s) _ front tail z ((refl, tt), ((refl, tt), tt))) in
    let a = bound (steps reading.First front) (λ next. steps next tail) _ (sym (steps_on front tail reading.First) ∙ whole) in
    let b = bound (step a.0 (codes "schedule" ∷ [])) (λ next. steps next ((codes "done" ∷ []) ∷ [])) _ a.2 in
    let c = bound (step b.0 (codes "done" ∷ [])) (λ next. steps next []) _ b.2 in
    let ended : step b.0 (codes "done" ∷ []) ≡ Ok (reading.Finished (input_with s [])) = c.1 ∙ c.2 in
    record { mid = a.0; run_to = a.1; is = schedule_ends a.0 b.0 b.1; ends = b.1 ∙ ap (λ m. Ok m) (done_ends b.0 (input_with s []) ended) }

-- what follows a script's end is no script
line_stays : (script : Script) (schedule : List Line) (line : Line) (next : State) → on_line script schedule line ≡ Ok next → IsScript next → ⊥
line_stays script schedule line next e is =
    let to : Result State LineError = Ok (reading.Lines script (schedule ++ line ∷ [])) in
    let injected = within (keeps_injected line.act) which.Bytes to in
    let lane = within (nat_le line.lane 15) which.Lane injected in
    let lines = within (nat_lt (length schedule) (most_lines (layout_of script.layout))) which.Lines lane in
    let p = passed (names_known script line.act) lines next e in
    let a = allowed (nat_lt (length schedule) (most_lines (layout_of script.layout))) which.Lines lane next p.1 in
    let b = allowed (nat_le line.lane 15) which.Lane injected next a.1 in
    let c = allowed (keeps_injected line.act) which.Bytes to next b.1 in
    subst IsScript (sym (same_Ok (reading.Lines script (schedule ++ line ∷ [])) next c.1)) is

script_before : (state next : State) (words : List (List ℕ)) → step state words ≡ Ok next → IsScript next → IsScript state
unfolding step
script_before reading.First next words e is = tt
script_before (reading.Second layout) next words e is = tt
script_before (reading.Start script) next words e is = tt
script_before (reading.Tasks script current) next words e is = tt
script_before (reading.Lines script schedule) next words e is = at (chosen _ _ _ _ e)
  where
    at : ((is_word (codes "done") words ≡ true) × (◌≡◌ {A = Result State LineError} (Ok (reading.Finished (input_with script schedule))) (Ok next)))
        ⊎ ((is_word (codes "done") words ≡ false) × (and_then (run line_form words) (on_line script schedule) ≡ Ok next)) → IsScript (reading.Lines script schedule)
    at (inl h) = subst IsScript (sym (same_Ok (reading.Finished (input_with script schedule)) next h.1)) is
    at (inr h) =
        let l = bound (run line_form words) (on_line script schedule) next h.1 in
        line_stays script schedule l.0 next l.2 is
script_before (reading.Finished x) next words e is = absurd (err_ok Syntax next e)

script_all : (front : List (List (List ℕ))) (state mid : State) → steps state front ≡ Ok mid → IsScript mid → IsScript state
script_all [] state mid e is = subst IsScript (sym (same_Ok state mid e)) is
script_all (words ∷ front) state mid e is =
    let n = bound (step state words) (λ next. steps next front) mid e in
    script_before state n.0 words n.1 (script_all front n.0 mid n.2 is)

-- neither word is a line of a script
no_journal : (state next : State) → IsScript state → step state (codes "journal" ∷ []) ≡ Ok next → ⊥
unfolding step head_form sizes_form task_line_form
no_journal reading.First next is e = err_ok Syntax next e
no_journal (reading.Second layout) next is e = err_ok Syntax next e
no_journal (reading.Start script) next is e = err_ok Syntax next e
no_journal (reading.Tasks script current) next is e = err_ok Syntax next e
no_journal (reading.Lines script schedule) next is e = is
no_journal (reading.Finished x) next is e = is

no_schedule : (state next : State) → IsScript state → IsScript next → step state (codes "schedule" ∷ []) ≡ Ok next → ⊥
unfolding step head_form sizes_form task_line_form
no_schedule reading.First next is on e = err_ok Syntax next e
no_schedule (reading.Second layout) next is on e = err_ok Syntax next e
no_schedule (reading.Start script) next is on e = err_ok Syntax next e
no_schedule (reading.Tasks script current) next is on e = subst IsScript (sym (same_Ok (reading.Lines (with_task script current) []) next (passed _ _ next e).1)) on
no_schedule (reading.Lines script schedule) next is on e = is
no_schedule (reading.Finished x) next is on e = is

carried_one : (state next : State) (words : List (List ℕ)) → IsScript state → IsScript next → step state words ≡ Ok next → audit_step (Before state) words ≡ Ok (Before next)
unfolding audit_step
carried_one state next words is on e = at (is_word (codes "journal") words) (is_word (codes "schedule") words) refl refl
  where
    at : (j s : Bool) → is_word (codes "journal") words ≡ j → is_word (codes "schedule") words ≡ s → audit_step (Before state) words ≡ Ok (Before next)
    at true s journal schedule = absurd (no_journal state next is (subst (λ ws. step state ws ≡ Ok next) (is_one_word (codes "journal") words journal) e))
    at false true journal schedule = absurd (no_schedule state next is on (subst (λ ws. step state ws ≡ Ok next) (is_one_word (codes "schedule") words schedule) e))
    at false false journal schedule = rw (journal, schedule, e) refl

carried : (front : List (List (List ℕ))) (state mid : State) → IsScript mid → steps state front ≡ Ok mid → audit_steps (Before state) front ≡ Ok (Before mid)
carried [] state mid is e = ap (λ s. Ok (Before s)) (same_Ok state mid e)
carried (words ∷ front) state mid is e =
    let n = bound (step state words) (λ next. steps next front) mid e in
    let on = script_all front n.0 mid n.2 is in
    rw (carried_one state n.0 words (script_before state n.0 words n.1 on) on n.1) (carried front n.0 mid is n.2)

-- ---- the events

more_words : (text : List ℕ) (row : List Column) (words : List (List ℕ)) → 2 ≤ length row → IsRow row words → is_word text words ≡ false
more_words text [] words two z = absurd (omega (arith, two))
more_words text (p ∷ []) words two z = absurd (omega (arith, two))
more_words text (p ∷ q ∷ row) [] two z = refl
more_words text (p ∷ q ∷ row) (w ∷ []) two z = absurd z.1
more_words text (p ∷ q ∷ row) (w ∷ v ∷ words) two z = refl

pub event_parts : (e : Event) → 2 ≤ length (event_row e)
event_parts (Issue t s) = omega arith
event_parts (Refuse t s why) = omega arith
event_parts (Enter t s) = omega arith
event_parts (Pass t s) = omega arith
event_parts (Copy m) = omega arith
event_parts (Head m) = omega arith
event_parts (Land m) = omega arith
event_parts (Begin m t w) = omega arith
event_parts (End m t w) = omega arith

step_event : (script : Script) (journal : List Event) (e : Event) (words : List (List ℕ)) → IsRow (event_row e) words → IsOfRequest e → length journal + 1 ≤ most_events
    → audit_step (Events script journal) words ≡ Ok (Events script (journal ++ e ∷ []))
unfolding audit_step
step_event script journal e words z request few =
    rw (more_words (codes "done") (event_row e) words (event_parts e) z, said event_line_form e (event_row e) words (event_matches e request) z, lt-ltb (length journal) most_events (omega (arith, few))) refl

step_ended : (script : Script) (journal : List Event) (words : List (List ℕ)) → IsRow done_row words → audit_step (Events script journal) words ≡ Ok (Ended (audit_with script journal))
unfolding audit_step
step_ended script journal words z = rw (one_word (codes "done") words z) refl

events_run : (script : Script) (events journal : List Event) (wordss : List (List (List ℕ))) → Spells (map event_row events ++ done_row ∷ []) wordss → AllByRecursion IsOfRequest events
    → length journal + length events ≤ most_events → audit_steps (Events script journal) wordss ≡ Ok (Ended (audit_with script (journal ++ events)))
events_run script [] journal [] z requests few = absurd z
events_run script [] journal (words ∷ []) z requests few = rw (step_ended script journal words z.0) (ap (λ j. Ok (Ended (audit_with script j))) (sym (append-nil journal)))
events_run script [] journal (words ∷ other ∷ wordss) z requests few = absurd z.1
events_run script (e ∷ events) journal [] z requests few = absurd z
events_run script (e ∷ events) journal (words ∷ wordss) z requests few =
    let len : length (journal ++ e ∷ []) ≡ length journal + 1 = length-append journal (e ∷ []) in
    rw (step_event script journal e words z.0 requests.0 (omega (arith, few)))
    (events_run script events (journal ++ e ∷ []) wordss z.1 requests.1 (omega (arith, len, few)) ∙ ap (λ j. Ok (Ended (audit_with script j))) (append_assoc journal (e ∷ []) events))

step_journal : (state : State) (script : Script) (words : List (List ℕ)) → IsRow journal_row words → step state (codes "schedule" ∷ []) ≡ Ok (reading.Lines script []) → audit_step (Before state) words ≡ Ok (Events script [])
unfolding audit_step
step_journal state script words z e = rw (one_word (codes "journal") words z, e) refl

-- ---- all lines

journal_run : (x : AuditInput) (state : State) (left : List (List (List ℕ))) → AuditFits x → step state (codes "schedule" ∷ []) ≡ Ok (reading.Lines x.script []) → Spells (journal_row ∷ (map event_row x.journal ++ done_row ∷ [])) left
    → audit_steps (Before state) left ≡ Ok (Ended x)
journal_run x state [] fits ends z = absurd z
journal_run x state (words ∷ wordss) fits ends z = rw (step_journal state x.script words z.0 ends) (events_run x.script x.journal [] wordss z.1 fits.requests (omega (arith, fits.few)))

audit_run : (x : AuditInput) (wordss : List (List (List ℕ))) → AuditFits x → Spells (audit_rows x) wordss → audit_steps (Before reading.First) wordss ≡ Ok (Ended x)
audit_run x wordss fits z =
    let p = parted (script_rows x.script) (journal_row ∷ (map event_row x.journal ++ done_row ∷ [])) wordss z in
    let input : Fits (input_with x.script []) = record {
      script = fits.script;
      schedule = record { count = omega arith; lines = tt };
    } in
    let s = script_run x.script p.front input p.spelled in
    ap (audit_steps (Before reading.First)) p.whole ∙ audit_steps_on p.front p.left (Before reading.First)
    ∙ rw (carried p.front reading.First s.mid s.is s.run_to) (journal_run x s.mid p.left fits s.ends p.more)

-- what is spelled so is read
pub audit_complete : (lines : List (List ℕ)) (x : AuditInput) → IsAuditRead x lines → read_audit_from 1 (Before reading.First) lines ≡ Ok x
audit_complete lines x r =
    audit_reads_all 1 (Before reading.First) lines x r.clean (audit_run x (read_words lines) (record { script = r.script; few = r.few; requests = r.requests }) r.rows)
