-- What is spelled within the limits is read.
use Rattle.std.proofs.Common.{◌≡◌, ℕ, ◌+◌, ◌≤◌, ◌<◌, List, [], ◌∷◌, ◌++◌, length, map, refl, sym, ap, ◌∙◌, subst, Bool, true, false, cond, Result, Ok, arith, append_assoc}
use Rattle.std.specs.Prelude.{codes, not, IsTrue}
use Rattle.std.specs.List.{AllZip, AllByRecursion}
use Rattle.std.proofs.lemmas.List.{append-nil, length-append}
use Rattle.std.proofs.lemmas.Bool.{lt-ltb, le-leb, eq-eqb, false≢true}
use Rattle.lapi_base.specs.declared.input.Which.{Which}
use Rattle.lapi_base.specs.declared.input.Which.TheVariants as which
use Rattle.lapi_base.specs.declared.input.LineError.{LineError}
use Rattle.lapi_base.specs.declared.statement.Statement.{Statement}
use Rattle.lapi_base.specs.declared.schedule.Act.{Act}
use Rattle.lapi_base.specs.declared.schedule.Act.TheVariants.{Step, Poll, Tick, Deliver, Cut, Inject}
use Rattle.lapi_base.specs.declared.schedule.Line.{Line}
use Rattle.lapi_base.specs.declared.script.Script.{Script}
use Rattle.lapi_base.specs.declared.input.Input.{Input}
use Rattle.lapi_base.specs.Packet.Layout.{is_version, layout_of, most_lines}
use Rattle.lapi_base.specs.Record.Valid.{ValidStatement, ValidScript, ValidLine}
use Rattle.lapi_base.specs.Packet.Spelling.{spells_packet}
use Rattle.lapi_base.specs.Input.Lines.{words_of, is_clean, is_skipped, read_words}
use Rattle.lapi_base.specs.Input.Forms.{and_then, head_form, sizes_form, Task, Schedule, StatementLine, task_line_form, line_form}
use Rattle.lapi_base.specs.Input.Rows.{Column, Word, IsRow, head_row, sizes_row, task_row, statement_row, schedule_row, done_row, act_row, line_row, task_rows, rows, IsRead}
use Rattle.lapi_base.specs.Input.Reading as reading
use Rattle.lapi_base.specs.Input.Reading.{State, within, on_statement, step, after, read_from, checked_sizes, is_word}
use Rattle.lapi_text.proofs.Parts.{same_text_of}
use Rattle.lapi_text.proofs.Rules.{same_Ok, bound, said, without_tasks, statement_matches, task_matches, schedule_matches, head_matches, sizes_matches, line_matches}
use Rattle.lapi_text.proofs.Bounds.{pieces_kept, bytes_kept, operand_of, act_known, injected_kept}
use Rattle.lapi_text.proofs.Sound.{ValidList, Fits, input_with}

abbrev pub Spells : List (List Column) → List (List (List ℕ)) → Type 0
Spells rows wordss = AllZip IsRow rows wordss

-- the state after the lines with these words
abbrev pub steps : State → List (List (List ℕ)) → Result State LineError
steps state [] = Ok state
steps state (words ∷ more) = and_then (step state words) (λ next. steps next more)

pub reads_all : (l : ℕ) (state : State) (lines : List (List ℕ)) (x : Input) → AllByRecursion (λ line. IsTrue (is_clean line)) lines → steps state (read_words lines) ≡ Ok (reading.Finished x) → read_from l state lines ≡ Ok x
unfolding after
reads_all l state [] x clean e = rw (same_Ok state (reading.Finished x) e) refl
reads_all l state (line ∷ lines) x clean e = at (is_skipped (words_of line)) refl e (λ next. reads_all (l + 1) next lines x clean.1)
  where
    at : (b : Bool) → is_skipped (words_of line) ≡ b → steps state (cond (not b) (words_of line ∷ read_words lines) (read_words lines)) ≡ Ok (reading.Finished x)
        → ((next : State) → steps next (read_words lines) ≡ Ok (reading.Finished x) → read_from (l + 1) next lines ≡ Ok x) → read_from l state (line ∷ lines) ≡ Ok x
    at true skipped h rest = rw (clean.0, skipped) (rest state h)
    at false skipped h rest =
        let n = bound (step state (words_of line)) (λ next. steps next (read_words lines)) (reading.Finished x) h in
        rw (clean.0, skipped, n.1) (rest n.0 n.2)

-- the limits, as they are tested
sizes_checked : (s : Script) → ValidScript s → checked_sizes (without_tasks s) ≡ Ok (without_tasks s)
sizes_checked s v = rw (le-leb _ _ v.tasks.0, le-leb _ _ v.tasks.1, le-leb _ _ v.memory.0, le-leb _ _ v.memory.1, v.memory.2, le-leb _ _ v.counters, le-leb _ _ v.workers.0, le-leb _ _ v.workers.1) refl

no_act : (a : Act) → IsRow (act_row a) [] → ⊥
no_act (Step t) z = z
no_act (Poll t) z = z
no_act (Tick t) z = z
no_act (Deliver a b k) z = z
no_act (Cut a b k n) z = z
no_act (Inject a b bytes) z = z
no_act (Act.Begin t w) z = z
no_act (Act.End t w) z = z

pub not_done : (text : List ℕ) (line : Line) (words : List (List ℕ)) → IsRow (line_row line) words → is_word text words ≡ false
not_done text line [] z = refl
not_done text line (w ∷ []) z = absurd (no_act line.act z.1)
not_done text line (w ∷ v ∷ words) z = refl

-- ---- the steps

-- a script with these lists
abbrev pub script_with : Script → List (List Statement) → Script
script_with s lists = record s { lists = lists }

pub step_head : (layout : ℕ) (words : List (List ℕ)) → is_version layout ≡ true → IsRow (head_row layout) words → step reading.First words ≡ Ok (reading.Second layout)
unfolding step
step_head layout words is z = rw (said head_form layout (head_row layout) words (head_matches layout) z, is) refl

step_sizes : (s : Script) (words : List (List ℕ)) → IsRow (sizes_row s) words → ValidScript s → step (reading.Second s.layout) words ≡ Ok (reading.Start (without_tasks s))
unfolding step
step_sizes s words z valid = rw (said (sizes_form s.layout) (without_tasks s) (sizes_row s) words (sizes_matches s) z, sizes_checked s valid) refl

pub step_first_task : (s : Script) (words : List (List ℕ)) → IsRow (task_row 0) words → step (reading.Start s) words ≡ Ok (reading.Tasks s [])
unfolding step
step_first_task s words z = rw (said task_line_form (Task 0) (task_row 0) words (task_matches 0) z) refl

pub step_task : (s : Script) (lists : List (List Statement)) (current : List Statement) (t : ℕ) (words : List (List ℕ)) → IsRow (task_row t) words → t ≡ length lists + 1 → t < s.tasks
    → step (reading.Tasks (script_with s lists) current) words ≡ Ok (reading.Tasks (script_with s (lists ++ current ∷ [])) [])
unfolding step
step_task s lists current t words z is lt = rw (said task_line_form (Task t) (task_row t) words (task_matches t) z, eq-eqb _ _ is, lt-ltb _ _ lt) refl

pub step_schedule : (s : Script) (lists : List (List Statement)) (current : List Statement) (words : List (List ℕ)) → IsRow schedule_row words → length lists + 1 ≡ s.tasks
    → step (reading.Tasks (script_with s lists) current) words ≡ Ok (reading.Lines (script_with s (lists ++ current ∷ [])) [])
unfolding step
step_schedule s lists current words z is = rw (said task_line_form Schedule schedule_row words schedule_matches z, eq-eqb _ _ is) refl

pub within_ok : {A : Type 0} (b : Bool) (w : Which) (r : Result A LineError) (y : A) → b ≡ true → r ≡ Ok y → within b w r ≡ Ok y
within_ok true w r y e h = h
within_ok false w r y e h = absurd (false≢true e)

statement_ok : (s : Script) (current : List Statement) (st : Statement) → ValidStatement st → length current < 512 → on_statement s current st ≡ Ok (reading.Tasks s (current ++ st ∷ []))
statement_ok s current st valid lt =
    let next = reading.Tasks s (current ++ st ∷ []) in
    within_ok _ which.Statements _ next (lt-ltb (length current) 512 lt)
    (within_ok _ which.Pieces _ next (pieces_kept st valid)
    (within_ok _ which.Bytes _ next (bytes_kept st valid) refl))

step_does : (s : Script) (current : List Statement) (st : Statement) (words : List (List ℕ)) → IsRow (statement_row st) words → ValidStatement st → length current < 512
    → step (reading.Tasks s current) words ≡ Ok (reading.Tasks s (current ++ st ∷ []))
unfolding step
step_does s current st words z valid lt =
    rw (said task_line_form (StatementLine st) (statement_row st) words (statement_matches st (operand_of st valid)) z) (statement_ok s current st valid lt)

step_line : (script : Script) (schedule : List Line) (line : Line) (words : List (List ℕ)) → IsRow (line_row line) words → ValidLine script spells_packet line
    → length schedule < most_lines (layout_of script.layout) → step (reading.Lines script schedule) words ≡ Ok (reading.Lines script (schedule ++ line ∷ []))
unfolding step
step_line script schedule line words z valid lt =
    rw (not_done (codes "done") line words z, said line_form line (line_row line) words (line_matches line) z, act_known script line.act valid.1, lt-ltb _ _ lt, le-leb _ _ valid.0, injected_kept script line.act valid.1) refl

pub one_word : (text : List ℕ) (words : List (List ℕ)) → IsRow (Word text ∷ []) words → is_word text words ≡ true
one_word text [] z = absurd z
one_word text (w ∷ []) z = same_text_of w text z.0
one_word text (w ∷ v ∷ words) z = absurd z.1

step_done : (script : Script) (schedule : List Line) (words : List (List ℕ)) → IsRow done_row words → step (reading.Lines script schedule) words ≡ Ok (reading.Finished (input_with script schedule))
unfolding step
step_done script schedule words z = rw (one_word (codes "done") words z) refl

-- ---- all lines

-- the words that are left after some rows, and the state there
pub record Onto (state next : State) (wordss : List (List (List ℕ))) (rest : List (List Column)) : Type 0 where
  pub left : List (List (List ℕ))
  pub spelled : Spells rest left
  pub same : steps state wordss ≡ steps next left

statements_run : (s : Script) (list current : List Statement) (rest : List (List Column)) (wordss : List (List (List ℕ)))
    → Spells (map statement_row list ++ rest) wordss → AllByRecursion ValidStatement list → length current + length list ≤ 512
    → Onto (reading.Tasks s current) (reading.Tasks s (current ++ list)) wordss rest
statements_run s [] current rest wordss z valid few = record { left = wordss; spelled = z; same = rw (append-nil current) refl }
statements_run s (st ∷ list) current rest [] z valid few = absurd z
statements_run s (st ∷ list) current rest (words ∷ wordss) z valid few =
    let len : length (current ++ st ∷ []) ≡ length current + 1 = length-append current (st ∷ []) in
    let more = statements_run s list (current ++ st ∷ []) rest wordss z.1 valid.1 (omega (arith, len, few)) in
    record {
      left = more.left;
      spelled = more.spelled;
      same = rw (step_does s current st words z.0 valid.0 (omega (arith, few))) (more.same ∙ ap (λ c. steps (reading.Tasks s c) more.left) (append_assoc current (st ∷ []) list));
    }

lines_run : (script : Script) (lines schedule : List Line) (rest : List (List Column)) (wordss : List (List (List ℕ)))
    → Spells (map line_row lines ++ rest) wordss → AllByRecursion (ValidLine script spells_packet) lines
    → length schedule + length lines ≤ most_lines (layout_of script.layout) → Onto (reading.Lines script schedule) (reading.Lines script (schedule ++ lines)) wordss rest
lines_run script [] schedule rest wordss z valid few = record { left = wordss; spelled = z; same = rw (append-nil schedule) refl }
lines_run script (line ∷ lines) schedule rest [] z valid few = absurd z
lines_run script (line ∷ lines) schedule rest (words ∷ wordss) z valid few =
    let len : length (schedule ++ line ∷ []) ≡ length schedule + 1 = length-append schedule (line ∷ []) in
    let more = lines_run script lines (schedule ++ line ∷ []) rest wordss z.1 valid.1 (omega (arith, len, few)) in
    record {
      left = more.left;
      spelled = more.spelled;
      same = rw (step_line script schedule line words z.0 valid.0 (omega (arith, few))) (more.same ∙ ap (λ c. steps (reading.Lines script c) more.left) (append_assoc schedule (line ∷ []) lines));
    }

pub record TasksRun (s : Script) (lists : List (List Statement)) (current : List Statement) (more : List (List Statement)) (wordss : List (List (List ℕ))) (rest : List (List Column)) : Type 0 where
  pub before : List (List Statement)
  pub last : List Statement
  pub whole : before ++ last ∷ [] ≡ lists ++ current ∷ more
  pub onto : Onto (reading.Tasks (script_with s lists) current) (reading.Tasks (script_with s before) last) wordss rest

tasks_run : (s : Script) (more lists : List (List Statement)) (current : List Statement) (k : ℕ) (rest : List (List Column)) (wordss : List (List (List ℕ)))
    → Spells (task_rows k more ++ rest) wordss → AllByRecursion ValidList more → k ≡ length lists + 1 → k + length more ≡ s.tasks
    → TasksRun s lists current more wordss rest
tasks_run s [] lists current k rest wordss z valid here all = record { before = lists; last = current; whole = refl; onto = record { left = wordss; spelled = z; same = refl } }
tasks_run s (list ∷ more) lists current k rest [] z valid here all = absurd z
tasks_run s (list ∷ more) lists current k rest (words ∷ wordss) z valid here all =
    let regroup : (map statement_row list ++ task_rows (k + 1) more) ++ rest ≡ map statement_row list ++ (task_rows (k + 1) more ++ rest) = append_assoc (map statement_row list) (task_rows (k + 1) more) rest in
    begun (statements_run (script_with s (lists ++ current ∷ [])) list [] (task_rows (k + 1) more ++ rest) wordss (subst (λ rs. Spells rs wordss) regroup z.1) valid.0.1 (omega (arith, valid.0.0)))
    (λ inner. tasks_run s more (lists ++ current ∷ []) list (k + 1) rest inner.left inner.spelled valid.1 (omega (arith, here, length-append lists (current ∷ []))) (omega (arith, all)))
  where
    Inner : Type 0
    Inner = Onto (reading.Tasks (script_with s (lists ++ current ∷ [])) []) (reading.Tasks (script_with s (lists ++ current ∷ [])) list) wordss (task_rows (k + 1) more ++ rest)

    ended : (inner : Inner) → TasksRun s (lists ++ current ∷ []) list more inner.left rest → TasksRun s lists current (list ∷ more) (words ∷ wordss) rest
    ended inner outer = record {
      before = outer.before;
      last = outer.last;
      whole = outer.whole ∙ append_assoc lists (current ∷ []) (list ∷ more);
      onto = record {
        left = outer.onto.left;
        spelled = outer.onto.spelled;
        same = rw (step_task s lists current k words z.0 here (omega (arith, all))) (inner.same ∙ outer.onto.same);
      };
    }

    begun : (inner : Inner) → ((inner : Inner) → TasksRun s (lists ++ current ∷ []) list more inner.left rest) → TasksRun s lists current (list ∷ more) (words ∷ wordss) rest
    begun inner go = ended inner (go inner)

pub done_run : (script : Script) (schedule : List Line) (wordss : List (List (List ℕ))) → Spells (done_row ∷ []) wordss → steps (reading.Lines script schedule) wordss ≡ Ok (reading.Finished (input_with script schedule))
done_run script schedule [] z = absurd z
done_run script schedule (words ∷ []) z = rw (step_done script schedule words z.0) refl
done_run script schedule (words ∷ other ∷ wordss) z = absurd z.1

abbrev pub end_rows : List Line → List (List Column)
end_rows schedule = schedule_row ∷ (map line_row schedule ++ done_row ∷ [])

end_run : (s : Script) (before : List (List Statement)) (last : List Statement) (schedule : List Line) (wordss : List (List (List ℕ)))
    → Spells (end_rows schedule) wordss → length before + 1 ≡ s.tasks → Fits (input_with (script_with s (before ++ last ∷ [])) schedule)
    → steps (reading.Tasks (script_with s before) last) wordss ≡ Ok (reading.Finished (input_with (script_with s (before ++ last ∷ [])) schedule))
end_run s before last schedule [] z here fits = absurd z
end_run s before last schedule (words ∷ wordss) z here fits =
    let script = script_with s (before ++ last ∷ []) in
    let lines = lines_run script schedule [] (done_row ∷ []) wordss z.1 fits.schedule.lines (omega (arith, fits.schedule.count)) in
    rw (step_schedule s before last words z.0 here) (lines.same ∙ done_run script schedule lines.left lines.spelled)

tasks_all : (s : Script) (list : List Statement) (more : List (List Statement)) (schedule : List Line) (wordss : List (List (List ℕ)))
    → Fits (input_with (script_with s (list ∷ more)) schedule) → Spells ((map statement_row list ++ task_rows 1 more) ++ end_rows schedule) wordss
    → steps (reading.Tasks (script_with s []) []) wordss ≡ Ok (reading.Finished (input_with (script_with s (list ∷ more)) schedule))
tasks_all s list more schedule wordss fits z =
    first (statements_run (script_with s []) list [] (task_rows 1 more ++ end_rows schedule) wordss (subst (λ rs. Spells rs wordss) (append_assoc (map statement_row list) (task_rows 1 more) (end_rows schedule)) z)
    fits.script.lists.0.1 (omega (arith, fits.script.lists.0.0)))
  where
    Inner : Type 0
    Inner = Onto (reading.Tasks (script_with s []) []) (reading.Tasks (script_with s []) list) wordss (task_rows 1 more ++ end_rows schedule)

    Goal : Type 0
    Goal = steps (reading.Tasks (script_with s []) []) wordss ≡ Ok (reading.Finished (input_with (script_with s (list ∷ more)) schedule))

    others : (inner : Inner) (outer : TasksRun s [] list more inner.left (end_rows schedule)) → Goal
    others inner outer =
        let len : length (outer.before ++ outer.last ∷ []) ≡ length outer.before + 1 = length-append outer.before (outer.last ∷ []) in
        let here : length outer.before + 1 ≡ s.tasks = sym len ∙ ap (λ ls. length ls) outer.whole ∙ fits.script.one_list_each in
        let at_end = subst (λ ls. Fits (input_with (script_with s ls) schedule)) (sym outer.whole) fits in
        inner.same ∙ outer.onto.same ∙ end_run s outer.before outer.last schedule outer.onto.left outer.onto.spelled here at_end
        ∙ ap (λ ls. Ok (reading.Finished (input_with (script_with s ls) schedule))) outer.whole

    first : (inner : Inner) → Goal
    first inner = others inner (tasks_run s more [] list 1 (end_rows schedule) inner.left inner.spelled fits.script.lists.1 (omega arith) (omega (arith, fits.script.one_list_each)))

pub all_run : (s : Script) (lists : List (List Statement)) (schedule : List Line) (wordss : List (List (List ℕ)))
    → Fits (input_with (script_with s lists) schedule) → Spells (rows (input_with (script_with s lists) schedule)) wordss
    → steps reading.First wordss ≡ Ok (reading.Finished (input_with (script_with s lists) schedule))
all_run s [] schedule wordss fits z = absurd (omega (arith, fits.script.one_list_each, fits.script.tasks.0))
all_run s (list ∷ more) schedule [] fits z = absurd z
all_run s (list ∷ more) schedule (a ∷ []) fits z = absurd z.1
all_run s (list ∷ more) schedule (a ∷ b ∷ []) fits z = absurd z.1.1
all_run s (list ∷ more) schedule (a ∷ b ∷ c ∷ wordss) fits z =
    rw (step_head s.layout a fits.script.layout z.0, step_sizes (script_with s (list ∷ more)) b z.1.0 fits.script, step_first_task (without_tasks s) c z.1.1.0) (tasks_all s list more schedule wordss fits z.1.1.1)

-- what is spelled so is read
pub complete : (lines : List (List ℕ)) (x : Input) → IsRead x lines → read_from 1 reading.First lines ≡ Ok x
complete lines x r =
    reads_all 1 reading.First lines x r.clean (all_run x.script x.script.lists x.schedule (read_words lines) (record { script = r.script; schedule = r.schedule }) r.rows)
