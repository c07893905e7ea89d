-- A fault is of syntax where the lines have the form of no input, and else of a limit that each such input passes.
use Rattle.std.proofs.Common.{◌≡◌, ℕ, zero, suc, ◌+◌, ◌-◌, ◌^◌, ◌≤◌, ◌<◌, List, [], ◌∷◌, ◌++◌, length, map, refl, sym, ap, ◌∙◌, subst, Bool, true, false, cond, Some, None, Option, Result, Ok, Err, inl, inr, arith, append_assoc}
use Rattle.std.specs.Prelude.{codes, ◌⊎◌, IsTrue, ◌==◌, ◌&&◌, nat_lt}
use Rattle.std.specs.List.{AllZip, AllByRecursion}
use Rattle.std.proofs.lemmas.List.{map-append, length-append}
use Rattle.lapi_base.specs.declared.input.Which.{Which}
use Rattle.lapi_base.specs.declared.input.LineError.{LineError}
use Rattle.lapi_base.specs.declared.input.LineError.TheVariants.{Syntax, Limit}
use Rattle.lapi_base.specs.declared.statement.Statement.{Statement}
use Rattle.lapi_base.specs.declared.schedule.Line.{Line}
use Rattle.lapi_base.specs.declared.script.Script.{Script}
use Rattle.lapi_base.specs.declared.input.Input.{Input}
use Rattle.lapi_base.specs.Packet.Layout.{is_version}
use Rattle.lapi_base.specs.Record.Valid.{ValidStatement, ValidLine}
use Rattle.lapi_base.specs.Packet.Spelling.{spells_packet}
use Rattle.lapi_base.specs.Input.Lines.{words_of, is_clean, is_skipped, read_words}
use Rattle.lapi_base.specs.Input.Tokens.{Value, value_of}
use Rattle.lapi_base.specs.Input.Forms.{Form, End, Wrong, Next, Take, run, and_then, well_formed, head_form, sizes_form, TaskLine, Task, Schedule, StatementLine, task_line_form, line_form}
use Rattle.lapi_base.specs.Input.Rows.{Column, IsRow, head_row, sizes_row, task_row, statement_row, schedule_row, done_row, line_row, row_line, task_rows, script_rows, rows}
use Rattle.lapi_base.specs.Input.Reading as reading
use Rattle.lapi_base.specs.Input.Reading.{State, Fault, step, after, read_from, input_of, checked_sizes, names_known, with_task, on_first_task, on_statement, on_task_line, on_line, is_word}
use Rattle.lapi_base.specs.Input.Faults.{KeepsLimit, HasOperand, IsFormed, HasForm, BeginsForm, IsKind}
use Rattle.lapi_text.proofs.Rules.{sizes_says, SizesSay, task_line_says, TaskLineSays, Says, line_says}
use Rattle.lapi_text.proofs.Bounds.{row_fit, operand_of, act_known}
use Rattle.lapi_text.proofs.Sound as sound
use Rattle.lapi_text.proofs.Sound.{input_with, so_far, TasksKeep, Fits, ValidList, fault_ok, all_push, task_rows_push, task_rows_more}
use Rattle.lapi_text.proofs.Complete.{script_with, end_rows}
use Rattle.lapi_text.proofs.Canon.{RowFits, lines_clean, lines_stand, all_append, task_fits, schedule_fits, done_fits}
use Rattle.lapi_text.proofs.First.{same_fault, Led, AtLine, AtEnd, fault_found, bad_more, end_bad, up_to, zip_append, words_append}
use Rattle.lapi_text.proofs.Outcome.{formed_outcome}

-- ---- where a limit is judged the line has its form

-- a row of these words, behind which some rows lead to an input's form
record Extends (state : State) (words : List (List ℕ)) : Type 0 where
  x : Input
  row : List Column
  more : List (List Column)
  whole : rows x ≡ so_far state ++ row ∷ more
  formed : IsFormed x
  texts : AllByRecursion RowFits more
  spelled : IsRow row words

not_limit : {A : Type 0} (w : Which) → ◌≡◌ {A = Result A LineError} (Err Syntax) (Err (Limit w)) → ⊥
not_limit w e = cc

not_ok : {A : Type 0} (w : Which) (x : A) → ◌≡◌ {A = Result A LineError} (Ok x) (Err (Limit w)) → ⊥
not_ok w x e = cc

-- a line's words say what they say, or are of no form
run_limit : {A : Type 0} (form : Form A) (words : List (List ℕ)) (w : Which) → run form words ≡ Err (Limit w) → ⊥
run_limit (End a) [] w e = not_ok w a e
run_limit {A = A} (End a) (word ∷ words) w e = not_limit {A = A} w e
run_limit {A = A} Wrong words w e = not_limit {A = A} w e
run_limit {A = A} (Next more) [] w e = not_limit {A = A} w e
run_limit (Next more) (word ∷ words) w e = run_limit (more word) words w e
run_limit {A = A} (Take kind more) [] w e = not_limit {A = A} w e
run_limit {A = A} (Take kind more) (word ∷ words) w e = at (value_of kind word) e (λ v. run_limit (more v) words w)
  where
    at : (o : Option (Value kind)) → and_then {A = Value kind × List (List ℕ)} (and_then {A = Value kind} {B = Value kind × List (List ℕ)} (well_formed o) (λ v. Ok (v, words))) (λ y. run (more y.0) y.1) ≡ Err (Limit w)
        → ((v : Value kind) → run (more v) words ≡ Err (Limit w) → ⊥) → ⊥
    at None h rest = not_limit {A = A} w h
    at (Some v) h rest = rest v h

-- what a line said before a limit was judged
said_first : {A B : Type 0} (form : Form A) (words : List (List ℕ)) (f : A → Result B LineError) (w : Which) → and_then (run form words) f ≡ Err (Limit w) → (x : A) × (run form words ≡ Ok x) × (f x ≡ Err (Limit w))
said_first {A = A} {B = B} form words f w e = at (run form words) refl e
  where
    at : (r : Result A LineError) → run form words ≡ r → and_then r f ≡ Err (Limit w) → (x : A) × (run form words ≡ Ok x) × (f x ≡ Err (Limit w))
    at (Ok x) is h = (x, is, h)
    at (Err v) is h = absurd (run_limit form words w (is ∙ ap (λ y. Err y) (same v (Limit w) h)))
      where
        same : (a b : LineError) → ◌≡◌ {A = Result B LineError} (Err a) (Err b) → a ≡ b
        same a b q = cc

-- a test that only syntax hangs on
no_test : {A : Type 0} (b : Bool) (x : A) (w : Which) → ◌≡◌ {A = Result A LineError} (cond b (Ok x) (Err Syntax)) (Err (Limit w)) → ⊥
no_test true x w e = not_ok w x e
no_test {A = A} false x w e = not_limit {A = A} w e

passed_test : {A : Type 0} (b : Bool) (r : Result A LineError) (w : Which) → cond b r (Err Syntax) ≡ Err (Limit w) → b ≡ true
passed_test true r w e = refl
passed_test {A = A} false r w e = absurd (not_limit {A = A} w e)

-- ---- tasks without statements

empties : ℕ → List (List Statement)
empties zero = []
empties (suc n) = [] ∷ empties n

length_empties : (n : ℕ) → length (empties n) ≡ n
unfolding empties
length_empties zero = refl
length_empties (suc n) = omega (arith, length_empties n)

empties_operands : (n : ℕ) → AllByRecursion (AllByRecursion HasOperand) (empties n)
unfolding empties
empties_operands zero = tt
empties_operands (suc n) = (tt, empties_operands n)

empties_fit : (n k : ℕ) → k + n ≤ 2 ^ 32 → AllByRecursion RowFits (task_rows k (empties n))
unfolding empties
empties_fit zero k few = tt
empties_fit (suc n) k few = (task_fits k (omega (arith, few)), empties_fit n (k + 1) (omega (arith, few)))

task_rows_append : (k : ℕ) (a b : List (List Statement)) → task_rows k (a ++ b) ≡ task_rows k a ++ task_rows (k + length a) b
task_rows_append k [] b = let here : k ≡ k + 0 = omega arith in ap (λ n. task_rows n b) here
task_rows_append k (list ∷ a) b =
    let here : k + 1 + length a ≡ k + suc (length a) = omega arith in
    ap (λ r. task_row k ∷ (map statement_row list ++ r)) (task_rows_append (k + 1) a b ∙ ap (λ n. task_rows (k + 1) a ++ task_rows n b) here)
    ∙ ap (λ r. task_row k ∷ r) (sym (append_assoc (map statement_row list) (task_rows (k + 1) a) (task_rows (k + suc (length a)) b)))

end_fits : AllByRecursion RowFits (end_rows [])
end_fits = (schedule_fits, (done_fits, tt))

-- ---- what a line that passes a limit extends to

sizes_extend : (layout : ℕ) (s : Script) (words : List (List ℕ)) → is_version layout ≡ true → SizesSay layout s words → Extends (reading.Second layout) words
sizes_extend layout s words is says =
    let tasks : s.tasks < 2 ^ 32 = (row_fit (sizes_row s) words says.row).1.0 in
    record {
      x = input_with (script_with s (empties s.tasks)) [];
      row = sizes_row s;
      more = task_rows 0 (empties s.tasks) ++ end_rows [];
      whole = ap (λ n. head_row n ∷ sizes_row s ∷ (task_rows 0 (empties s.tasks) ++ end_rows [])) says.same_layout;
      formed = record { layout = ap is_version says.same_layout ∙ is; one_list_each = length_empties s.tasks; operands = empties_operands s.tasks; named = tt };
      texts = all_append RowFits (task_rows 0 (empties s.tasks)) (end_rows []) (empties_fit s.tasks 0 (omega (arith, tasks))) end_fits;
      spelled = says.row;
    }

statements_operands : (list : List Statement) → AllByRecursion ValidStatement list → AllByRecursion HasOperand list
statements_operands [] valid = tt
statements_operands (s ∷ list) valid = (operand_of s valid.0, statements_operands list valid.1)

lists_operands : (lists : List (List Statement)) → AllByRecursion ValidList lists → AllByRecursion (AllByRecursion HasOperand) lists
lists_operands [] valid = tt
lists_operands (list ∷ lists) valid = (statements_operands list valid.0.1, lists_operands lists valid.1)

regroup : (front : List (List Column)) (row : List Column) (others more : List (List Column)) → ((front ++ row ∷ []) ++ others) ++ more ≡ front ++ row ∷ (others ++ more)
regroup front row others more = append_assoc (front ++ row ∷ []) others more ∙ append_assoc front (row ∷ []) (others ++ more)

statement_rows : (lists : List (List Statement)) (current : List Statement) (s : Statement) (n k : ℕ) → k ≡ 0 + length (lists ++ (current ++ s ∷ []) ∷ [])
    → task_rows 0 ((lists ++ (current ++ s ∷ []) ∷ []) ++ empties n) ++ end_rows [] ≡ task_rows 0 (lists ++ current ∷ []) ++ statement_row s ∷ (task_rows k (empties n) ++ end_rows [])
statement_rows lists current s n k is =
    ap (λ r. r ++ end_rows []) (task_rows_append 0 (lists ++ (current ++ s ∷ []) ∷ []) (empties n)
    ∙ ap (λ m. task_rows 0 (lists ++ (current ++ s ∷ []) ∷ []) ++ task_rows m (empties n)) (sym is)
    ∙ ap (λ r. r ++ task_rows k (empties n)) (task_rows_more lists current s))
    ∙ regroup (task_rows 0 (lists ++ current ∷ [])) (statement_row s) (task_rows k (empties n)) (end_rows [])

statement_extends : (script : Script) (current : List Statement) (s : Statement) (words : List (List ℕ)) → TasksKeep script current → Says s words → Extends (reading.Tasks script current) words
statement_extends script current s words keeps says =
    let front : List (List Statement) = script.lists ++ (current ++ s ∷ []) ∷ [] in
    let k : ℕ = length script.lists + 1 in
    let n : ℕ = script.tasks - (length script.lists + 1) in
    let len : length (script.lists ++ (current ++ s ∷ []) ∷ []) ≡ length script.lists + 1 = length-append script.lists ((current ++ s ∷ []) ∷ []) in
    let all : length ((script.lists ++ (current ++ s ∷ []) ∷ []) ++ empties n) ≡ length (script.lists ++ (current ++ s ∷ []) ∷ []) + length (empties n) = length-append front (empties n) in
    record {
      x = input_with (script_with script (front ++ empties n)) [];
      row = statement_row s;
      more = task_rows k (empties n) ++ end_rows [];
      whole = ap (λ r. head_row script.layout ∷ sizes_row script ∷ r) (statement_rows script.lists current s n k (omega (arith, len)));
      formed = record {
        layout = keeps.sized.layout;
        one_list_each = omega (arith, all, len, length_empties n, keeps.room);
        operands = all_append (AllByRecursion HasOperand) front (empties n)
            (all_push (AllByRecursion HasOperand) script.lists (current ++ s ∷ []) (lists_operands script.lists keeps.lists)
            (all_push HasOperand current s (statements_operands current keeps.list.1) says.operand)) (empties_operands n);
        named = tt;
      };
      texts = all_append RowFits (task_rows k (empties n)) (end_rows []) (empties_fit n k (omega (arith, keeps.room, keeps.sized.tasks.1))) end_fits;
      spelled = says.row;
    }

lines_named : (script : Script) (schedule : List Line) → AllByRecursion (ValidLine script spells_packet) schedule → AllByRecursion (λ (l : Line). IsTrue (names_known script l.act)) schedule
lines_named script [] valid = tt
lines_named script (line ∷ schedule) valid = (act_known script line.act valid.0.1, lines_named script schedule valid.1)

line_extends : (script : Script) (schedule : List Line) (line : Line) (words : List (List ℕ)) → Fits (input_with script schedule) → IsRow (line_row line) words → names_known script line.act ≡ true → Extends (reading.Lines script schedule) words
line_extends script schedule line words fits z named =
    let before : List (List Column) = map line_row schedule in
    record {
      x = input_with script (schedule ++ line ∷ []);
      row = line_row line;
      more = done_row ∷ [];
      whole = ap (λ r. script_rows script ++ (schedule_row ∷ (r ++ done_row ∷ []))) (map-append line_row schedule (line ∷ []))
          ∙ ap (λ r. script_rows script ++ (schedule_row ∷ r)) (append_assoc before (line_row line ∷ []) (done_row ∷ []))
          ∙ sym (append_assoc (script_rows script) (schedule_row ∷ before) (line_row line ∷ done_row ∷ []));
      formed = record {
        layout = fits.script.layout;
        one_list_each = fits.script.one_list_each;
        operands = lists_operands script.lists fits.script.lists;
        named = all_push (λ (l : Line). IsTrue (names_known script l.act)) schedule line (lines_named script schedule fits.schedule.lines) named;
      };
      texts = (done_fits, tt);
      spelled = z;
    }

first_task_limit : (script : Script) (line : TaskLine) (w : Which) → on_first_task script line ≡ Err (Limit w) → ⊥
first_task_limit script (Task t) w e = no_test (t == 0) (reading.Tasks script []) w e
first_task_limit script Schedule w e = not_limit {A = State} w e
first_task_limit script (StatementLine s) w e = not_limit {A = State} w e

task_line_extends : (script : Script) (current : List Statement) (line : TaskLine) (words : List (List ℕ)) (w : Which) → TasksKeep script current → TaskLineSays line words → on_task_line script current line ≡ Err (Limit w)
    → Extends (reading.Tasks script current) words
task_line_extends script current (Task t) words w keeps says e = absurd (no_test (t == length script.lists + 1 && nat_lt t script.tasks) (reading.Tasks (with_task script current) []) w e)
task_line_extends script current Schedule words w keeps says e = absurd (no_test (length script.lists + 1 == script.tasks) (reading.Lines (with_task script current) []) w e)
task_line_extends script current (StatementLine s) words w keeps says e = statement_extends script current s words keeps says

limit_extends : (state : State) (words : List (List ℕ)) (w : Which) → sound.Keeps state → step state words ≡ Err (Limit w) → Extends state words
unfolding step
limit_extends reading.First words w keeps e =
    let h = said_first head_form words _ w e in
    absurd (no_test (is_version h.0) (reading.Second h.0) w h.2)
limit_extends (reading.Second layout) words w keeps e =
    let h = said_first (sizes_form layout) words (λ script. and_then (checked_sizes script) (λ script. Ok (reading.Start script))) w e in
    sizes_extend layout h.0 words keeps (sizes_says layout words h.0 h.1)
limit_extends (reading.Start script) words w keeps e =
    let h = said_first task_line_form words (on_first_task script) w e in
    absurd (first_task_limit script h.0 w h.2)
limit_extends (reading.Tasks script current) words w keeps e =
    let h = said_first task_line_form words (on_task_line script current) w e in
    task_line_extends script current h.0 words w keeps (task_line_says words h.0 h.1) h.2
limit_extends (reading.Lines script schedule) words w keeps e = at (is_word (codes "done") words) e
  where
    at : (b : Bool) → cond b (Ok (reading.Finished (input_with script schedule))) (and_then (run line_form words) (on_line script schedule)) ≡ Err (Limit w) → Extends (reading.Lines script schedule) words
    at true h = absurd (not_ok w (reading.Finished (input_with script schedule)) h)
    at false h =
        let l = said_first line_form words (on_line script schedule) w h in
        line_extends script schedule l.0 words keeps (line_says words l.0 l.1) (passed_test (names_known script l.0.act) _ w l.2)
limit_extends (reading.Finished x) words w keeps e = absurd (not_limit {A = State} w e)

extends_begins : (front : List (List ℕ)) (state : State) (line : List ℕ) → Led front state → is_clean line ≡ true → is_skipped (words_of line) ≡ false → Extends state (words_of line) → BeginsForm (front ++ line ∷ [])
extends_begins front state line led clean skipped ext =
    let rest : List (List ℕ) = map row_line ext.more in
    let words : read_words ((front ++ line ∷ []) ++ rest) ≡ read_words front ++ words_of line ∷ read_words rest =
    ap read_words (append_assoc front (line ∷ []) rest) ∙ words_append front (line ∷ rest) ∙ ap (λ ws. read_words front ++ ws) (rw skipped refl) in (
      ext.x,
      rest,
      record {
        clean = all_append _ (front ++ line ∷ []) rest (all_append _ front (line ∷ []) led.clean (clean, tt)) (lines_clean ext.more ext.texts);
        rows = subst (λ ws. AllZip IsRow (rows ext.x) ws) (sym words) (subst (λ rs. AllZip IsRow rs (read_words front ++ words_of line ∷ read_words rest)) (sym ext.whole)
            (zip_append IsRow (so_far state) (ext.row ∷ ext.more) (read_words front) (words_of line ∷ read_words rest) led.rows (ext.spelled, lines_stand ext.more ext.texts)));
        formed = ext.formed;
      },
    )

limit_begins : (front : List (List ℕ)) (state : State) (line : List ℕ) (w : Which) → Led front state → after state line ≡ Err (Limit w) → BeginsForm (front ++ line ∷ [])
unfolding after
limit_begins front state line w led e = at (is_clean line) refl e
  where
    words_at : (b : Bool) → is_clean line ≡ true → is_skipped (words_of line) ≡ b → cond b (Ok state) (step state (words_of line)) ≡ Err (Limit w) → BeginsForm (front ++ line ∷ [])
    words_at true clean skipped h = absurd (not_ok w state h)
    words_at false clean skipped h = extends_begins front state line led clean skipped (limit_extends state (words_of line) w led.keeps h)

    at : (b : Bool) → is_clean line ≡ b → cond b (cond (is_skipped (words_of line)) (Ok state) (step state (words_of line))) (Err Syntax) ≡ Err (Limit w) → BeginsForm (front ++ line ∷ [])
    at true clean h = words_at (is_skipped (words_of line)) clean refl h
    at false clean h = absurd (not_limit {A = State} w h)

-- ---- the kind of a fault

-- what a fault says of lines that have an input's form
abbrev Told : LineError → Input → Type 0
Told Syntax x = ⊥
Told (Limit w) x = ¬ KeepsLimit w x

same_limit : (v w : Which) → Limit v ≡ Limit w → v ≡ w
same_limit v w e = cc

limit_syntax : (w : Which) → Limit w ≡ Syntax → ⊥
limit_syntax w e = cc

same_why : (v w : LineError) (k l : ℕ) → ◌≡◌ {A = Result Input Fault} (Err (v, k)) (Err (w, l)) → v ≡ w
same_why v w k l e = ap (λ (f : Fault). f.0) (same_fault (v, k) (w, l) e)

form_told : (lines : List (List ℕ)) (why : LineError) (l : ℕ) (x : Input) → read_from 1 reading.First lines ≡ Err (why, l) → HasForm x lines → Told why x
form_told lines why l x bad form = at why bad (formed_outcome lines x form)
  where
    Outcome : Type 0
    Outcome = (read_from 1 reading.First lines ≡ Ok x) ⊎ ((w : Which) × (l : ℕ) × (read_from 1 reading.First lines ≡ Err (Limit w, l)) × ¬ KeepsLimit w x)

    at : (why : LineError) → read_from 1 reading.First lines ≡ Err (why, l) → Outcome → Told why x
    at why is (inl e) = absurd (fault_ok (why, l) x (sym is ∙ e))
    at Syntax is (inr (v, k, e, passes)) = limit_syntax v (same_why (Limit v) Syntax k l (sym e ∙ is))
    at (Limit w) is (inr (v, k, e, passes)) = subst (λ u. ¬ KeepsLimit u x) (same_limit v w (same_why (Limit v) (Limit w) k l (sym e ∙ is))) passes

line_kind : (lines : List (List ℕ)) (why : LineError) (l : ℕ) (f : AtLine lines why l) → IsKind (f.front ++ f.line ∷ f.others) why l
line_kind lines Syntax l f = (
  λ within begins.
      let b = subst BeginsForm (up_to f.front f.line f.others l f.here) begins in
      form_told (f.front ++ f.line ∷ b.1) Syntax l b.0 (bad_more lines Syntax l f b.1) (subst (λ ls. HasForm b.0 ls) (append_assoc f.front (f.line ∷ []) b.1) b.2),
  λ x form. form_told (f.front ++ f.line ∷ f.others) Syntax l x (bad_more lines Syntax l f f.others) form,
)
line_kind lines (Limit w) l f =
    let to = up_to f.front f.line f.others l f.here in (
      subst BeginsForm (sym to) (limit_begins f.front f.state f.line w f.led f.bad),
      λ x more form.
          form_told (f.front ++ f.line ∷ more) (Limit w) l x (bad_more lines (Limit w) l f more)
          (subst (λ ls. HasForm x ls) (append_assoc f.front (f.line ∷ []) more) (subst (λ ls. HasForm x (ls ++ more)) to form)),
    )

end_syntax : (l : ℕ) (state : State) (why : LineError) → input_of l state ≡ Err (why, l) → Syntax ≡ why
end_syntax l reading.First why e = same_why Syntax why l l e
end_syntax l (reading.Second layout) why e = same_why Syntax why l l e
end_syntax l (reading.Start script) why e = same_why Syntax why l l e
end_syntax l (reading.Tasks script current) why e = same_why Syntax why l l e
end_syntax l (reading.Lines script schedule) why e = same_why Syntax why l l e
end_syntax l (reading.Finished x) why e = absurd (fault_ok (why, l) x (sym e))

end_kind : (lines : List (List ℕ)) (why : LineError) (l : ℕ) → AtEnd lines why l → IsKind lines why l
end_kind lines why l f =
    let is = end_syntax l f.state why f.bad in
    let bad : read_from 1 reading.First lines ≡ Err (Syntax, l) = end_bad lines why l f ∙ ap (λ v. Err (v, l)) (sym is) in
    let here = f.here in
    subst (λ v. IsKind lines v l) is (λ within. absurd (omega (arith, within, here)), λ x form. form_told lines Syntax l x bad form)

found_kind : (lines : List (List ℕ)) (why : LineError) (l : ℕ) → AtLine lines why l ⊎ AtEnd lines why l → IsKind lines why l
found_kind lines why l (inl f) = subst (λ ls. IsKind ls why l) f.whole (line_kind lines why l f)
found_kind lines why l (inr f) = end_kind lines why l f

-- the kind of a fault is that of its lines
pub fault_kind : (lines : List (List ℕ)) (why : LineError) (l : ℕ) → read_from 1 reading.First lines ≡ Err (why, l) → IsKind lines why l
fault_kind lines why l bad = found_kind lines why l (fault_found lines why l bad)
