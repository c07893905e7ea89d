-- Lines that have the form of an input are read to it, or to a limit that it passes.
use Rattle.std.proofs.Common.{◌≡◌, ℕ, suc, ◌+◌, ◌≤◌, List, [], ◌∷◌, ◌++◌, length, map, refl, sym, ap, ◌∙◌, subst, Bool, true, false, cond, Result, Ok, Err, inl, inr, arith, append_assoc}
use Rattle.std.specs.Prelude.{codes, ◌⊎◌, not, IsTrue, ◌&&◌}
use Rattle.std.specs.List.{AllByRecursion}
use Rattle.std.proofs.lemmas.List.{append-nil, length-append}
use Rattle.std.proofs.lemmas.Bool.{lt-ltb, le-leb, eq-eqb, false≢true}
use Rattle.lapi_base.specs.declared.input.Which.{Which}
use Rattle.lapi_base.specs.declared.input.Which.TheVariants as which
use Rattle.lapi_base.specs.declared.input.LineError.{LineError}
use Rattle.lapi_base.specs.declared.input.LineError.TheVariants.{Limit}
use Rattle.lapi_base.specs.declared.statement.Statement.{Statement}
use Rattle.lapi_base.specs.declared.schedule.Line.{Line}
use Rattle.lapi_base.specs.declared.script.Script.{Script}
use Rattle.lapi_base.specs.declared.input.Input.{Input}
use Rattle.lapi_base.specs.Input.Lines.{words_of, is_clean, is_skipped, read_words}
use Rattle.lapi_base.specs.Input.Forms.{and_then, StatementLine, task_line_form, sizes_form, line_form}
use Rattle.lapi_base.specs.Input.Rows.{Column, IsRow, sizes_row, statement_row, done_row, line_row, task_rows, rows}
use Rattle.lapi_base.specs.Input.Reading as reading
use Rattle.lapi_base.specs.Input.Reading.{State, Fault, step, after, read_from, within, checked_sizes, keeps_pieces, keeps_bytes, keeps_injected, names_known, on_statement, on_line, is_word}
use Rattle.lapi_base.specs.Input.Faults.{ListKeeps, LineKeeps, CountKeeps, KeepsLimit, HasOperand, IsFormed, HasForm}
use Rattle.lapi_text.proofs.Rules.{err_ok, said, without_tasks, statement_matches, sizes_matches, line_matches}
use Rattle.lapi_text.proofs.Sound.{input_with, step_says}
use Rattle.lapi_text.proofs.Complete.{Spells, script_with, steps, reads_all, not_done, step_head, step_first_task, step_task, step_schedule, Onto, TasksRun, done_run, end_rows}

-- it ends at a limit that the input passes
abbrev pub Stops : {A : Type 0} → Input → Result A LineError → Type 0
Stops x r = (w : Which) × (r ≡ Err (Limit w)) × ¬ KeepsLimit w x

abbrev Answers : {A : Type 0} → Input → Result A LineError → A → Type 0
Answers x r y = (r ≡ Ok y) ⊎ Stops x r

-- one limit before others
limit_or : {A : Type 0} (b : Bool) (w : Which) (r : Result A LineError) (x : Input) (y : A) → (KeepsLimit w x → b ≡ true) → Answers x r y → Answers x (within b w r) y
limit_or true w r x y holds rest = rest
limit_or false w r x y holds rest = inr (w, refl, λ keeps. false≢true (holds keeps))

-- what holds of all holds of the one in the middle
middle : {A : Type 0} (P : A → Type 0) (xs ys : List A) (y : A) → AllByRecursion P (xs ++ y ∷ ys) → P y
middle P [] ys y all = all.0
middle P (x ∷ xs) ys y all = middle P xs ys y all.1

both : (a b : Bool) → a ≡ true → b ≡ true → (a && b) ≡ true
both a b e f = rw (e, f) refl

statement_or : (x : Input) (script : Script) (current list : List Statement) (s : Statement) → ((w : Which) → KeepsLimit w x → ListKeeps w (current ++ s ∷ list))
    → Answers x (on_statement script current s) (reading.Tasks script (current ++ s ∷ []))
statement_or x script current list s keeps =
    let next = reading.Tasks script (current ++ s ∷ []) in
    let len : length (current ++ s ∷ list) ≡ length current + suc (length list) = length-append current (s ∷ list) in
    limit_or _ which.Statements _ x next (λ k. lt-ltb (length current) 512 (omega (arith, keeps which.Statements k, len)))
    (limit_or _ which.Pieces _ x next (λ k. middle (λ t. IsTrue (keeps_pieces t)) current list s (keeps which.Pieces k))
    (limit_or _ which.Bytes _ x next (λ k. middle (λ t. IsTrue (keeps_bytes t)) current list s (keeps which.Bytes k)) (inl refl)))

does_or : (x : Input) (script : Script) (current list : List Statement) (s : Statement) (words : List (List ℕ)) → IsRow (statement_row s) words → HasOperand s → ((w : Which) → KeepsLimit w x → ListKeeps w (current ++ s ∷ list))
    → Answers x (step (reading.Tasks script current) words) (reading.Tasks script (current ++ s ∷ []))
unfolding step
does_or x script current list s words z operand keeps =
    rw (said task_line_form (StatementLine s) (statement_row s) words (statement_matches s operand) z) (statement_or x script current list s keeps)

line_or : (x : Input) (script : Script) (schedule more : List Line) (line : Line) (words : List (List ℕ)) → IsRow (line_row line) words → names_known script line.act ≡ true
    → ((w : Which) → KeepsLimit w x → LineKeeps w script line × CountKeeps w script (schedule ++ line ∷ more)) → Answers x (step (reading.Lines script schedule) words) (reading.Lines script (schedule ++ line ∷ []))
unfolding step
line_or x script schedule more line words z named keeps =
    let next = reading.Lines script (schedule ++ line ∷ []) in
    let len : length (schedule ++ line ∷ more) ≡ length schedule + suc (length more) = length-append schedule (line ∷ more) in
    rw (not_done (codes "done") line words z, said line_form line (line_row line) words (line_matches line) z, named)
    (limit_or _ which.Lines _ x next (λ k. lt-ltb _ _ (omega (arith, (keeps which.Lines k).1, len)))
    (limit_or _ which.Lane _ x next (λ k. le-leb _ _ (keeps which.Lane k).0)
    (limit_or _ which.Bytes _ x next (λ k. (keeps which.Bytes k).0) (inl refl))))

sizes_or : (x : Input) (words : List (List ℕ)) → IsRow (sizes_row x.script) words
    → Answers x (step (reading.Second x.script.layout) words) (reading.Start (without_tasks x.script))
unfolding step
sizes_or x words z =
    rw (said (sizes_form x.script.layout) (without_tasks x.script) (sizes_row x.script) words (sizes_matches x.script) z) (onward (checked_sizes (without_tasks x.script)) checked)
  where
    to : Script
    to = without_tasks x.script

    onward : (r : Result Script LineError) → Answers x r (without_tasks x.script) → Answers x (and_then r (λ script. Ok (reading.Start script))) (reading.Start (without_tasks x.script))
    onward r (inl e) = inl (rw e refl)
    onward r (inr (w, e, passes)) = inr (w, rw e refl, passes)

    checked : Answers x (checked_sizes (without_tasks x.script)) (without_tasks x.script)
    checked =
        limit_or _ which.Tasks _ x (without_tasks x.script) (λ k. both _ _ (le-leb _ _ k.sizes.0) (le-leb _ _ k.sizes.1))
        (limit_or _ which.Memory _ x (without_tasks x.script) (λ k. both _ _ (both _ _ (le-leb _ _ k.sizes.0) (le-leb _ _ k.sizes.1)) (eq-eqb _ _ k.sizes.2))
        (limit_or _ which.Counters _ x (without_tasks x.script) (λ k. le-leb _ _ k.sizes)
        (limit_or _ which.Workers _ x (without_tasks x.script) (λ k. both _ _ (le-leb _ _ k.sizes.0) (le-leb _ _ k.sizes.1)) (inl refl))))

-- ---- all lines

stops_here : {A B : Type 0} (x : Input) (r : Result A LineError) (f : A → Result B LineError) → Stops x r → Stops x (and_then r f)
stops_here x r f (w, e, passes) = (w, rw e refl, passes)

statements_or : (x : Input) (s : Script) (list current : List Statement) (rest : List (List Column)) (wordss : List (List (List ℕ))) → Spells (map statement_row list ++ rest) wordss → AllByRecursion HasOperand list
    → ((w : Which) → KeepsLimit w x → ListKeeps w (current ++ list)) → Onto (reading.Tasks s current) (reading.Tasks s (current ++ list)) wordss rest ⊎ Stops x (steps (reading.Tasks s current) wordss)
statements_or x s [] current rest wordss z operands keeps = inl (record { left = wordss; spelled = z; same = rw (append-nil current) refl })
statements_or x s (st ∷ list) current rest [] z operands keeps = absurd z
statements_or x s (st ∷ list) current rest (words ∷ wordss) z operands keeps =
    at (does_or x s current list st words z.0 operands.0 keeps)
    (statements_or x s list (current ++ st ∷ []) rest wordss z.1 operands.1 (λ w k. subst (λ l. ListKeeps w l) (sym (append_assoc current (st ∷ []) list)) (keeps w k)))
  where
    Goal : Type 0
    Goal = Onto (reading.Tasks s current) (reading.Tasks s (current ++ st ∷ list)) (words ∷ wordss) rest ⊎ Stops x (steps (reading.Tasks s current) (words ∷ wordss))

    on : step (reading.Tasks s current) words ≡ Ok (reading.Tasks s (current ++ st ∷ []))
        → Onto (reading.Tasks s (current ++ st ∷ [])) (reading.Tasks s ((current ++ st ∷ []) ++ list)) wordss rest ⊎ Stops x (steps (reading.Tasks s (current ++ st ∷ [])) wordss) → Goal
    on e (inl more) = inl (record { left = more.left; spelled = more.spelled; same = rw e (more.same ∙ ap (λ c. steps (reading.Tasks s c) more.left) (append_assoc current (st ∷ []) list)) })
    on e (inr stop) = inr (rw e stop)

    at : Answers x (step (reading.Tasks s current) words) (reading.Tasks s (current ++ st ∷ []))
        → Onto (reading.Tasks s (current ++ st ∷ [])) (reading.Tasks s ((current ++ st ∷ []) ++ list)) wordss rest ⊎ Stops x (steps (reading.Tasks s (current ++ st ∷ [])) wordss) → Goal
    at (inl e) more = on e more
    at (inr stop) more = inr (stops_here x (step (reading.Tasks s current) words) _ stop)

lines_or : (x : Input) (script : Script) (lines schedule : List Line) (rest : List (List Column)) (wordss : List (List (List ℕ))) → Spells (map line_row lines ++ rest) wordss
    → AllByRecursion (λ (l : Line). IsTrue (names_known script l.act)) lines → ((w : Which) → KeepsLimit w x → AllByRecursion (LineKeeps w script) lines × CountKeeps w script (schedule ++ lines))
    → Onto (reading.Lines script schedule) (reading.Lines script (schedule ++ lines)) wordss rest ⊎ Stops x (steps (reading.Lines script schedule) wordss)
lines_or x script [] schedule rest wordss z named keeps = inl (record { left = wordss; spelled = z; same = rw (append-nil schedule) refl })
lines_or x script (line ∷ lines) schedule rest [] z named keeps = absurd z
lines_or x script (line ∷ lines) schedule rest (words ∷ wordss) z named keeps =
    at (line_or x script schedule lines line words z.0 named.0 (λ w k. ((keeps w k).0.0, (keeps w k).1)))
    (lines_or x script lines (schedule ++ line ∷ []) rest wordss z.1 named.1 (λ w k. ((keeps w k).0.1, subst (λ l. CountKeeps w script l) (sym (append_assoc schedule (line ∷ []) lines)) (keeps w k).1)))
  where
    Goal : Type 0
    Goal = Onto (reading.Lines script schedule) (reading.Lines script (schedule ++ line ∷ lines)) (words ∷ wordss) rest ⊎ Stops x (steps (reading.Lines script schedule) (words ∷ wordss))

    on : step (reading.Lines script schedule) words ≡ Ok (reading.Lines script (schedule ++ line ∷ []))
        → Onto (reading.Lines script (schedule ++ line ∷ [])) (reading.Lines script ((schedule ++ line ∷ []) ++ lines)) wordss rest ⊎ Stops x (steps (reading.Lines script (schedule ++ line ∷ [])) wordss) → Goal
    on e (inl more) = inl (record { left = more.left; spelled = more.spelled; same = rw e (more.same ∙ ap (λ c. steps (reading.Lines script c) more.left) (append_assoc schedule (line ∷ []) lines)) })
    on e (inr stop) = inr (rw e stop)

    at : Answers x (step (reading.Lines script schedule) words) (reading.Lines script (schedule ++ line ∷ []))
        → Onto (reading.Lines script (schedule ++ line ∷ [])) (reading.Lines script ((schedule ++ line ∷ []) ++ lines)) wordss rest ⊎ Stops x (steps (reading.Lines script (schedule ++ line ∷ [])) wordss) → Goal
    at (inl e) more = on e more
    at (inr stop) more = inr (stops_here x (step (reading.Lines script schedule) words) _ stop)

-- the other tasks, behind these lists and the current one
module _ (x : Input) (s : Script) (rest : List (List Column)) where
  tasks_or : (more lists : List (List Statement)) (current : List Statement) (k : ℕ) (wordss : List (List (List ℕ))) → Spells (task_rows k more ++ rest) wordss → AllByRecursion (AllByRecursion HasOperand) more
      → ((w : Which) → KeepsLimit w x → AllByRecursion (ListKeeps w) more) → k ≡ length lists + 1 → k + length more ≡ s.tasks
      → TasksRun s lists current more wordss rest ⊎ Stops x (steps (reading.Tasks (script_with s lists) current) wordss)
  tasks_or [] lists current k wordss z operands keeps here all = inl (record { before = lists; last = current; whole = refl; onto = record { left = wordss; spelled = z; same = refl } })
  tasks_or (list ∷ more) lists current k [] z operands keeps here all = absurd z
  tasks_or (list ∷ more) lists current k (words ∷ wordss) z operands keeps here all =
      let regroup : (map statement_row list ++ task_rows (k + 1) more) ++ rest ≡ map statement_row list ++ (task_rows (k + 1) more ++ rest) = append_assoc (map statement_row list) (task_rows (k + 1) more) rest in
      at (statements_or x (script_with s lists') list [] (task_rows (k + 1) more ++ rest) wordss (subst (λ rs. Spells rs wordss) regroup z.1) operands.0 (λ w k. (keeps w k).0))
      (λ inner. tasks_or more lists' list (k + 1) inner.left inner.spelled operands.1 (λ w k. (keeps w k).1) (omega (arith, here, length-append lists (current ∷ []))) (omega (arith, all)))
    where
      lists' : List (List Statement)
      lists' = lists ++ current ∷ []

      Goal : Type 0
      Goal = TasksRun s lists current (list ∷ more) (words ∷ wordss) rest ⊎ Stops x (steps (reading.Tasks (script_with s lists) current) (words ∷ wordss))

      Inner : Type 0
      Inner = Onto (reading.Tasks (script_with s (lists ++ current ∷ [])) []) (reading.Tasks (script_with s (lists ++ current ∷ [])) list) wordss (task_rows (k + 1) more ++ rest)

      begun : step (reading.Tasks (script_with s lists) current) words ≡ Ok (reading.Tasks (script_with s (lists ++ current ∷ [])) [])
      begun = step_task s lists current k words z.0 here (omega (arith, all))

      outer : (inner : Inner) → TasksRun s (lists ++ current ∷ []) list more inner.left rest ⊎ Stops x (steps (reading.Tasks (script_with s (lists ++ current ∷ [])) list) inner.left) → Goal
      outer inner (inl o) = inl (record {
        before = o.before;
        last = o.last;
        whole = o.whole ∙ append_assoc lists (current ∷ []) (list ∷ more);
        onto = record { left = o.onto.left; spelled = o.onto.spelled; same = rw begun (inner.same ∙ o.onto.same) };
      })
      outer inner (inr stop) = inr (rw begun (rw inner.same stop))

      at : Inner ⊎ Stops x (steps (reading.Tasks (script_with s (lists ++ current ∷ [])) []) wordss)
          → ((inner : Inner) → TasksRun s (lists ++ current ∷ []) list more inner.left rest ⊎ Stops x (steps (reading.Tasks (script_with s (lists ++ current ∷ [])) list) inner.left)) → Goal
      at (inl inner) go = outer inner (go inner)
      at (inr stop) go = inr (rw begun stop)

  end_or : (before : List (List Statement)) (last : List Statement) (schedule : List Line) (wordss : List (List (List ℕ))) → x ≡ input_with (script_with s (before ++ last ∷ [])) schedule
      → Spells (end_rows schedule) wordss → length before + 1 ≡ s.tasks → IsFormed x → Answers x (steps (reading.Tasks (script_with s before) last) wordss) (reading.Finished x)
  end_or before last schedule [] is z here formed = absurd z
  end_or before last schedule (words ∷ wordss) is z here formed =
      at (lines_or x script schedule [] (done_row ∷ []) wordss z.1 (subst IsFormed is formed).named
      (λ w k. let kept = subst (λ y. KeepsLimit w y) is k in (kept.lines, kept.count)))
    where
      script : Script
      script = script_with s (before ++ last ∷ [])

      begun : step (reading.Tasks (script_with s before) last) words ≡ Ok (reading.Lines (script_with s (before ++ last ∷ [])) [])
      begun = step_schedule s before last words z.0 here

      at : Onto (reading.Lines script []) (reading.Lines script schedule) wordss (done_row ∷ []) ⊎ Stops x (steps (reading.Lines script []) wordss)
          → Answers x (steps (reading.Tasks (script_with s before) last) (words ∷ wordss)) (reading.Finished x)
      at (inl lines) = inl (rw begun (lines.same ∙ done_run script schedule lines.left lines.spelled ∙ ap (λ y. Ok (reading.Finished y)) (sym is)))
      at (inr stop) = inr (rw begun stop)

-- the words of all lines
module _ (s : Script) (schedule : List Line) where
  abbrev whole : List (List Statement) → Input
  whole lists = input_with (script_with s lists) schedule

  abbrev Ends : List (List Statement) → State → List (List (List ℕ)) → Type 0
  Ends lists state wordss = Answers (whole lists) (steps state wordss) (reading.Finished (whole lists))

  tasks_all_or : (list : List Statement) (more : List (List Statement)) (wordss : List (List (List ℕ))) → IsFormed (whole (list ∷ more)) → Spells ((map statement_row list ++ task_rows 1 more) ++ end_rows schedule) wordss
      → Ends (list ∷ more) (reading.Tasks (script_with s []) []) wordss
  tasks_all_or list more wordss formed z =
      at (statements_or x (script_with s []) list [] (task_rows 1 more ++ end_rows schedule) wordss (subst (λ rs. Spells rs wordss) (append_assoc (map statement_row list) (task_rows 1 more) (end_rows schedule)) z) formed.operands.0 (λ w k. k.lists.0))
    where
      x : Input
      x = whole (list ∷ more)

      Inner : Type 0
      Inner = Onto (reading.Tasks (script_with s []) []) (reading.Tasks (script_with s []) list) wordss (task_rows 1 more ++ end_rows schedule)

      Goal : Type 0
      Goal = Ends (list ∷ more) (reading.Tasks (script_with s []) []) wordss

      last : (inner : Inner) (outer : TasksRun s [] list more inner.left (end_rows schedule)) → Answers x (steps (reading.Tasks (script_with s outer.before) outer.last) outer.onto.left) (reading.Finished x) → Goal
      last inner outer (inl e) = inl (inner.same ∙ outer.onto.same ∙ e)
      last inner outer (inr stop) = inr (rw (inner.same, outer.onto.same) stop)

      others : (inner : Inner) → TasksRun s [] list more inner.left (end_rows schedule) ⊎ Stops x (steps (reading.Tasks (script_with s []) list) inner.left) → Goal
      others inner (inr stop) = inr (rw inner.same stop)
      others inner (inl outer) =
          let len : length (outer.before ++ outer.last ∷ []) ≡ length outer.before + 1 = length-append outer.before (outer.last ∷ []) in
          let here : length outer.before + 1 ≡ s.tasks = sym len ∙ ap (λ ls. length ls) outer.whole ∙ formed.one_list_each in
          last inner outer (end_or x s (end_rows schedule) outer.before outer.last schedule outer.onto.left (ap (λ ls. whole ls) (sym outer.whole)) outer.onto.spelled here formed)

      at : Inner ⊎ Stops x (steps (reading.Tasks (script_with s []) []) wordss) → Goal
      at (inl inner) = others inner (tasks_or x s (end_rows schedule) more [] list 1 inner.left inner.spelled formed.operands.1 (λ w k. k.lists.1) (omega arith) (omega (arith, formed.one_list_each)))
      at (inr stop) = inr stop

  all_or : (lists : List (List Statement)) (wordss : List (List (List ℕ))) → IsFormed (whole lists) → Spells (rows (whole lists)) wordss → Ends lists reading.First wordss
  all_or lists [] formed z = absurd z
  all_or lists (a ∷ []) formed z = absurd z.1
  all_or lists (a ∷ b ∷ wordss) formed z = sized (sizes_or (whole lists) b z.1.0)
    where
      head : step reading.First a ≡ Ok (reading.Second s.layout)
      head = step_head s.layout a formed.layout z.0

      others : (ls : List (List Statement)) (ws : List (List (List ℕ))) → IsFormed (whole ls) → 2 ≤ s.tasks → Spells (task_rows 0 ls ++ end_rows schedule) ws → Ends ls (reading.Start (without_tasks s)) ws
      others [] ws f some y = absurd (omega (arith, f.one_list_each, some))
      others (list ∷ more) [] f some y = absurd y
      others (list ∷ more) (c ∷ ws) f some y = rw (step_first_task (without_tasks s) c y.0) (tasks_all_or list more ws f y.1)

      sized : Answers (whole lists) (step (reading.Second s.layout) b) (reading.Start (without_tasks s)) → Ends lists reading.First (a ∷ b ∷ wordss)
      sized (inl e) = rw (head, e) (others lists wordss formed (step_says (reading.Second s.layout) (reading.Start (without_tasks s)) b formed.layout e).keeps.0.tasks.0 z.1.1)
      sized (inr stop) = inr (rw head (stops_here (whole lists) (step (reading.Second s.layout) b) _ stop))

-- ---- and the lines themselves

same_why : {A : Type 0} (e f : LineError) → ◌≡◌ {A = Result A LineError} (Err e) (Err f) → e ≡ f
same_why e f h = cc

-- a limit that stops the words stops the lines
reads_stop : (k : ℕ) (state : State) (lines : List (List ℕ)) (w : Which) → AllByRecursion (λ line. IsTrue (is_clean line)) lines → steps state (read_words lines) ≡ Err (Limit w) → (l : ℕ) × (read_from k state lines ≡ Err (Limit w, l))
unfolding after
reads_stop k state [] w clean e = absurd (err_ok (Limit w) state (sym e))
reads_stop k state (line ∷ lines) w clean e = at (is_skipped (words_of line)) refl e (λ next. reads_stop (k + 1) next lines w clean.1)
  where
    Goal : Type 0
    Goal = (l : ℕ) × (read_from k state (line ∷ lines) ≡ Err (Limit w, l))

    Rest : Type 0
    Rest = (next : State) → steps next (read_words lines) ≡ Err (Limit w) → (l : ℕ) × (read_from (k + 1) next lines ≡ Err (Limit w, l))

    stepped : is_skipped (words_of line) ≡ false → (r : Result State LineError) → step state (words_of line) ≡ r → and_then r (λ next. steps next (read_words lines)) ≡ Err (Limit w) → Rest → Goal
    stepped skipped (Ok next) is h rest = let l = rest next h in (l.0, rw (clean.0, skipped, is) l.1)
    stepped skipped (Err v) is h rest = (k, rw (clean.0, skipped, is) (ap (λ y. Err (y, k)) (same_why {A = State} v (Limit w) h)))

    at : (b : Bool) → is_skipped (words_of line) ≡ b → steps state (cond (not b) (words_of line ∷ read_words lines) (read_words lines)) ≡ Err (Limit w) → Rest → Goal
    at true skipped h rest = let l = rest state h in (l.0, rw (clean.0, skipped) l.1)
    at false skipped h rest = stepped skipped (step state (words_of line)) refl h rest

-- what lines of an input's form are read to
pub formed_outcome : (lines : List (List ℕ)) (x : Input) → HasForm x lines → (read_from 1 reading.First lines ≡ Ok x) ⊎ ((w : Which) × (l : ℕ) × (read_from 1 reading.First lines ≡ Err (Limit w, l)) × ¬ KeepsLimit w x)
formed_outcome lines x f = at (all_or x.script x.schedule x.script.lists (read_words lines) f.formed f.rows)
  where
    at : Answers x (steps reading.First (read_words lines)) (reading.Finished x) → (read_from 1 reading.First lines ≡ Ok x) ⊎ ((w : Which) × (l : ℕ) × (read_from 1 reading.First lines ≡ Err (Limit w, l)) × ¬ KeepsLimit w x)
    at (inl e) = inl (reads_all 1 reading.First lines x f.clean e)
    at (inr (w, e, passes)) = let stop = reads_stop 1 reading.First lines w f.clean e in inr (w, stop.0, stop.1, passes)
