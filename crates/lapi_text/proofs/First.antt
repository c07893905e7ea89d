-- The line of a fault is the first up to which the lines begin no input.
use Rattle.std.proofs.Common.{◌≡◌, ℕ, zero, suc, ◌+◌, ◌-◌, ◌^◌, ◌<◌, List, [], ◌∷◌, ◌++◌, length, take, map, refl, sym, ap, ◌∙◌, subst, true, false, cond, Result, Ok, Err, inl, inr, arith, append_assoc, lit<}
use Rattle.std.specs.Prelude.{◌⊎◌, not, IsTrue}
use Rattle.std.specs.List.{AllZip, AllByRecursion}
use Rattle.std.proofs.lemmas.List.{append-nil, length-append, take_at, take_all}
use Rattle.lapi_base.specs.declared.input.LineError.{LineError}
use Rattle.lapi_base.specs.declared.statement.Statement.{Statement}
use Rattle.lapi_base.specs.declared.schedule.Line.{Line}
use Rattle.lapi_base.specs.declared.script.Script.{Script}
use Rattle.lapi_base.specs.declared.input.Input.{Input}
use Rattle.lapi_base.specs.Packet.Layout.{is_version}
use Rattle.lapi_base.specs.Input.Lines.{words_of, is_clean, is_skipped, read_words}
use Rattle.lapi_base.specs.Input.Forms.{sized}
use Rattle.lapi_base.specs.Input.Rows.{Column, IsRow, head_row, sizes_row, task_row, schedule_row, done_row, task_rows, script_rows, line_row, row_line, rows, IsRead, Begins, IsFirstFault}
use Rattle.lapi_base.specs.Input.Reading as reading
use Rattle.lapi_base.specs.Input.Reading.{State, after, read_from, input_of, at_line, with_task, Fault}
use Rattle.lapi_text.proofs.Sound.{so_far, Sized, TasksKeep, Fits, input_with, Keeps, Adds, fault_ok, tasks_push, next_task_keeps, schedule_keeps, after_says}
use Rattle.lapi_text.proofs.Complete.{complete}
use Rattle.lapi_text.proofs.Canon.{RowFits, lines_clean, lines_stand, all_append, head_fits, sizes_fits, task_fits, schedule_fits, done_fits}

-- rows that lead from a state to an input
record Completes (state : State) : Type 0 where
  x : Input
  more : List (List Column)
  whole : rows x ≡ so_far state ++ more
  fits : Fits x
  texts : AllByRecursion RowFits more

finished_completes : (x : Input) → Fits x → Completes (reading.Finished x)
finished_completes x fits = record { x = x; more = []; whole = sym (append-nil (rows x)); fits = fits; texts = tt }

lines_complete : (script : Script) (schedule : List Line) → Fits (input_with script schedule) → Completes (reading.Lines script schedule)
lines_complete script schedule keeps = record {
  x = input_with script schedule;
  more = done_row ∷ [];
  whole = sym (append_assoc (script_rows script) (schedule_row ∷ map line_row schedule) (done_row ∷ []));
  fits = keeps;
  texts = (done_fits, tt);
}

-- rows that lead from a state to the end of a script
pub record ScriptCompletes (state : State) : Type 0 where
  pub script : Script
  pub more : List (List Column)
  pub whole : script_rows script ≡ so_far state ++ more
  pub fits : Fits (input_with script [])
  pub texts : AllByRecursion RowFits more

prepend : (state next : State) (row : List Column) → so_far next ≡ so_far state ++ row ∷ [] → RowFits row → ScriptCompletes next → ScriptCompletes state
prepend state next row is fit c =
    record { script = c.script; more = row ∷ c.more; whole = c.whole ∙ ap (λ r. r ++ c.more) is ∙ append_assoc (so_far state) (row ∷ []) c.more; fits = c.fits; texts = (fit, c.texts) }

last_task_completes : (n : ℕ) (script : Script) (current : List Statement) → TasksKeep script current → length script.lists + 1 + n ≡ script.tasks → ScriptCompletes (reading.Tasks script current)
last_task_completes zero script current keeps here = record {
  script = with_task script current;
  more = [];
  whole = sym (append-nil (so_far (reading.Tasks script current)));
  fits = schedule_keeps script current keeps (omega (arith, here));
  texts = tt;
}
last_task_completes (suc n) script current keeps here =
    let t : ℕ = length script.lists + 1 in
    let len : length (script.lists ++ current ∷ []) ≡ length script.lists + 1 = length-append script.lists (current ∷ []) in
    let small : length script.lists + 1 < 2 ^ 32 = omega (arith, here, keeps.sized.tasks.1) in
    prepend _ (reading.Tasks (with_task script current) []) (task_row t) (tasks_push script current t refl) (task_fits t small)
    (last_task_completes n (with_task script current) [] (next_task_keeps script current keeps (omega (arith, here))) (omega (arith, len, here)))

pub tasks_complete : (script : Script) (current : List Statement) → TasksKeep script current → ScriptCompletes (reading.Tasks script current)
tasks_complete script current keeps = last_task_completes (script.tasks - (length script.lists + 1)) script current keeps (omega (arith, keeps.room))

pub start_completes : (script : Script) → Sized script → script.lists ≡ [] → ScriptCompletes (reading.Start script)
start_completes script fit none =
    let kept : TasksKeep script [] = record {
      sized = fit;
      room = rw none (omega (arith, fit.tasks.0));
      lists = rw none tt;
      list = (omega arith, tt);
    } in
    let first : task_rows 0 (script.lists ++ [] ∷ []) ≡ task_row 0 ∷ [] = rw none refl in
    prepend _ (reading.Tasks script []) (task_row 0) (ap (λ r. head_row script.layout ∷ sizes_row script ∷ r) first) (task_fits 0 (lit< tt)) (tasks_complete script [] kept)

-- the smallest sizes
abbrev pub small : (layout : ℕ) → Script
small layout = sized layout 2 64 0 1

small_fit : (layout : ℕ) → is_version layout ≡ true → Sized (small layout)
small_fit layout is = record { layout = is; tasks = (omega arith, omega arith); memory = (omega arith, omega arith, refl); counters = omega arith; workers = (omega arith, omega arith) }

pub second_completes : (layout : ℕ) → is_version layout ≡ true → ScriptCompletes (reading.Second layout)
second_completes layout is =
    let s = small layout in
    prepend _ (reading.Start s) (sizes_row s) refl (sizes_fits s (omega arith) (omega arith) (omega arith) (omega arith)) (start_completes s (small_fit layout is) refl)

pub first_completes : ScriptCompletes reading.First
first_completes = prepend _ (reading.Second 1) (head_row 1) refl (head_fits 1 refl) (second_completes 1 refl)

-- and to an input without lines
script_leads : (state : State) → ScriptCompletes state → Completes state
script_leads state c =
    let tail : List (List Column) = schedule_row ∷ done_row ∷ [] in
    record {
      x = input_with c.script [];
      more = c.more ++ tail;
      whole = ap (λ r. r ++ tail) c.whole ∙ append_assoc (so_far state) c.more tail;
      fits = c.fits;
      texts = all_append RowFits c.more tail c.texts (schedule_fits, (done_fits, tt));
    }

-- each state that keeps the limits leads to an input
completes : (state : State) → Keeps state → Completes state
completes reading.First keeps = script_leads reading.First first_completes
completes (reading.Second layout) keeps = script_leads (reading.Second layout) (second_completes layout keeps)
completes (reading.Start script) keeps = script_leads (reading.Start script) (start_completes script keeps.0 keeps.1)
completes (reading.Tasks script current) keeps = script_leads (reading.Tasks script current) (tasks_complete script current keeps)
completes (reading.Lines script schedule) keeps = lines_complete script schedule keeps
completes (reading.Finished x) keeps = finished_completes x keeps

-- the lines that lead to a state
pub record Led (front : List (List ℕ)) (state : State) : Type 0 where
  pub keeps : Keeps state
  pub clean : AllByRecursion (λ line. IsTrue (is_clean line)) front
  pub rows : AllZip IsRow (so_far state) (read_words front)

pub zip_append : {A B : Type 0} (R : A → B → Type 0) (xs zs : List A) (ys ws : List B) → AllZip R xs ys → AllZip R zs ws → AllZip R (xs ++ zs) (ys ++ ws)
zip_append R [] zs [] ws a b = b
zip_append R [] zs (y ∷ ys) ws a b = absurd a
zip_append R (x ∷ xs) zs [] ws a b = absurd a
zip_append R (x ∷ xs) zs (y ∷ ys) ws a b = (a.0, zip_append R xs zs ys ws a.1 b)

pub words_append : (a b : List (List ℕ)) → read_words (a ++ b) ≡ read_words a ++ read_words b
words_append [] b = refl
words_append (line ∷ a) b =
    elim (is_skipped (words_of line)) as (λ v. cond (not v) (words_of line ∷ read_words (a ++ b)) (read_words (a ++ b)) ≡ cond (not v) (words_of line ∷ read_words a) (read_words a) ++ read_words b) [
      | true ↦ words_append a b
      | false ↦ ap (λ r. words_of line ∷ r) (words_append a b)
    ]

led_begins : (front : List (List ℕ)) (state : State) → Led front state → Begins front
led_begins front state led =
    let c = completes state led.keeps in
    let rest = map row_line c.more in (
      c.x,
      rest,
      record {
        clean = all_append _ front rest led.clean (lines_clean c.more c.texts);
        rows = subst (λ ws. AllZip IsRow (rows c.x) ws) (sym (words_append front rest)) (subst (λ rs. AllZip IsRow rs (read_words front ++ read_words rest)) (sym c.whole)
            (zip_append IsRow (so_far state) c.more (read_words front) (read_words rest) led.rows (lines_stand c.more c.texts)));
        script = c.fits.script;
        schedule = c.fits.schedule;
      },
    )

-- one line more
led_on : (front : List (List ℕ)) (line : List ℕ) (state next : State) → Led front state → after state line ≡ Ok next → Led (front ++ line ∷ []) next
led_on front line state next led e = at (after_says state next line led.keeps e)
  where
    one : is_clean line ≡ true → AllByRecursion (λ line. IsTrue (is_clean line)) (front ++ line ∷ [])
    one clean = all_append _ front (line ∷ []) led.clean (clean, tt)

    at : (is_clean line ≡ true) × (((is_skipped (words_of line) ≡ true) × (state ≡ next)) ⊎ ((is_skipped (words_of line) ≡ false) × Adds state next (words_of line))) → Led (front ++ line ∷ []) next
    at (clean, inl h) =
        let same : read_words (front ++ line ∷ []) ≡ read_words front = words_append front (line ∷ []) ∙ rw h.0 (append-nil (read_words front)) in
        record { keeps = subst Keeps h.1 led.keeps; clean = one clean; rows = subst (λ ws. AllZip IsRow (so_far next) ws) (sym same) (subst (λ s. AllZip IsRow (so_far s) (read_words front)) h.1 led.rows) }
    at (clean, inr h) =
        let more : read_words (front ++ line ∷ []) ≡ read_words front ++ words_of line ∷ [] = words_append front (line ∷ []) ∙ rw h.0 refl in
        record {
          keeps = h.1.keeps;
          clean = one clean;
          rows = subst (λ ws. AllZip IsRow (so_far next) ws) (sym more) (subst (λ rs. AllZip IsRow rs (read_words front ++ words_of line ∷ [])) (sym h.1.rows)
              (zip_append IsRow (so_far state) (h.1.row ∷ []) (read_words front) (words_of line ∷ []) led.rows (h.1.spelled, tt)));
        }

-- ---- where a fault is

-- reading what begins with this front goes on from the state
abbrev pub Reaches : List (List ℕ) → ℕ → State → Type 0
Reaches front k state = (more : List (List ℕ)) → read_from 1 reading.First (front ++ more) ≡ read_from k state more

-- at a line, the front before which leads to a state
pub record AtLine (lines : List (List ℕ)) (why : LineError) (l : ℕ) : Type 0 where
  pub front : List (List ℕ)
  pub state : State
  pub line : List ℕ
  pub others : List (List ℕ)
  pub whole : front ++ line ∷ others ≡ lines
  pub here : l ≡ length front + 1
  pub led : Led front state
  pub reaches : Reaches front l state
  pub bad : after state line ≡ Err why

-- or after the last line
pub record AtEnd (lines : List (List ℕ)) (why : LineError) (l : ℕ) : Type 0 where
  pub state : State
  pub here : l ≡ length lines + 1
  pub led : Led lines state
  pub reaches : Reaches lines l state
  pub bad : input_of l state ≡ Err (why, l)

-- the line of a fault
abbrev line_of_fault : Result Input Fault → ℕ
line_of_fault (Ok x) = 0
line_of_fault (Err e) = e.1

ended_at : (k : ℕ) (state : State) (why : LineError) (l : ℕ) → input_of k state ≡ Err (why, l) → k ≡ l
ended_at k reading.First why l e = ap line_of_fault e
ended_at k (reading.Second layout) why l e = ap line_of_fault e
ended_at k (reading.Start script) why l e = ap line_of_fault e
ended_at k (reading.Tasks script current) why l e = ap line_of_fault e
ended_at k (reading.Lines script schedule) why l e = ap line_of_fault e
ended_at k (reading.Finished x) why l e = absurd (fault_ok (why, l) x (sym e))

end_found : (front : List (List ℕ)) (k : ℕ) (state : State) (why : LineError) (l : ℕ) → k ≡ length front + 1 → Led front state → Reaches front k state → input_of k state ≡ Err (why, l) → k ≡ l → AtEnd front why l
end_found front k state why l here led reaches bad is = record {
  state = state;
  here = sym is ∙ here;
  led = led;
  reaches = subst (λ n. Reaches front n state) is reaches;
  bad = subst (λ n. input_of n state ≡ Err (why, l)) is bad;
}

pub same_fault : (a b : Fault) → ◌≡◌ {A = Result Input Fault} (Err a) (Err b) → a ≡ b
same_fault a b e = cc

line_found : (front : List (List ℕ)) (k : ℕ) (state : State) (line : List ℕ) (others : List (List ℕ)) (v why : LineError) (l : ℕ) → k ≡ length front + 1 → Led front state → Reaches front k state → after state line ≡ Err v
    → ◌≡◌ {A = Fault} (v, k) (why, l) → AtLine (front ++ line ∷ others) why l
line_found front k state line others v why l here led reaches bad is =
    let at : k ≡ l = ap (λ (f : Fault). f.1) is in
    record {
      front = front;
      state = state;
      line = line;
      others = others;
      whole = refl;
      here = sym at ∙ here;
      led = led;
      reaches = subst (λ n. Reaches front n state) at reaches;
      bad = bad ∙ ap (λ (f : Fault). Err f.0) is;
    }

walk : (lines front : List (List ℕ)) (k : ℕ) (state : State) (why : LineError) (l : ℕ) → k ≡ length front + 1 → Led front state → Reaches front k state → read_from k state lines ≡ Err (why, l)
    → AtLine (front ++ lines) why l ⊎ AtEnd (front ++ lines) why l
walk [] front k state why l here led reaches bad = inr (subst (λ ls. AtEnd ls why l) (sym (append-nil front)) (end_found front k state why l here led reaches bad (ended_at k state why l bad)))
walk (line ∷ lines) front k state why l here led reaches bad =
    at (after state line) refl bad (λ next led2 reaches2 bad2. walk lines (front ++ line ∷ []) (k + 1) next why l (omega (arith, here, length-append front (line ∷ []))) led2 reaches2 bad2)
  where
    Found : List (List ℕ) → Type 0
    Found ls = AtLine ls why l ⊎ AtEnd ls why l

    at : (r : Result State LineError) → after state line ≡ r → at_line k r (λ next. read_from (k + 1) next lines) ≡ Err (why, l)
        → ((next : State) → Led (front ++ line ∷ []) next → Reaches (front ++ line ∷ []) (k + 1) next → read_from (k + 1) next lines ≡ Err (why, l) → Found ((front ++ line ∷ []) ++ lines)) → Found (front ++ line ∷ lines)
    at (Ok next) is e rest =
        subst Found (append_assoc front (line ∷ []) lines)
        (rest next (led_on front line state next led is) (λ more. ap (read_from 1 reading.First) (append_assoc front (line ∷ []) more) ∙ reaches (line ∷ more) ∙ rw is refl) e)
    at (Err v) is e rest = inl (line_found front k state line lines v why l here led reaches is (same_fault (v, k) (why, l) e))

pub fault_found : (lines : List (List ℕ)) (why : LineError) (l : ℕ) → read_from 1 reading.First lines ≡ Err (why, l) → AtLine lines why l ⊎ AtEnd lines why l
fault_found lines why l bad = walk lines [] 1 reading.First why l refl (record { keeps = tt; clean = tt; rows = tt }) (λ more. refl) bad

-- the lines up to a fault
pub up_to : (front : List (List ℕ)) (line : List ℕ) (others : List (List ℕ)) (l : ℕ) → l ≡ length front + 1 → take l (front ++ line ∷ others) ≡ front ++ line ∷ []
up_to front line others l here =
    ap (take l) (sym (append_assoc front (line ∷ []) others)) ∙ take_at (front ++ line ∷ []) others l (omega (arith, here, length-append front (line ∷ [])))

-- a line that is faulty behind a front is it whatever follows
pub bad_more : (lines : List (List ℕ)) (why : LineError) (l : ℕ) (f : AtLine lines why l) (more : List (List ℕ)) → read_from 1 reading.First (f.front ++ f.line ∷ more) ≡ Err (why, l)
bad_more lines why l f more = f.reaches (f.line ∷ more) ∙ rw f.bad refl

line_first : (front : List (List ℕ)) (state : State) (line : List ℕ) (others : List (List ℕ)) (l : ℕ) → l ≡ length front + 1 → Led front state → ((more : List (List ℕ)) (x : Input) → IsRead x (front ++ line ∷ more) → ⊥)
    → IsFirstFault (front ++ line ∷ others) l
line_first front state line others l here led fails =
    let len : length (front ++ line ∷ others) ≡ length front + suc (length others) = length-append front (line ∷ others) in
    let before : take (l - 1) (front ++ line ∷ others) ≡ front = take_at front (line ∷ others) (l - 1) (omega (arith, here)) in (
      omega (arith, here),
      omega (arith, here, len),
      subst Begins (sym before) (led_begins front state led),
      λ within begins. let b = subst Begins (up_to front line others l here) begins in fails b.1 b.0 (subst (λ ls. IsRead b.0 ls) (append_assoc front (line ∷ []) b.1) b.2),
      λ x r. fails others x r,
    )

pub end_bad : (lines : List (List ℕ)) (why : LineError) (l : ℕ) → AtEnd lines why l → read_from 1 reading.First lines ≡ Err (why, l)
end_bad lines why l f = ap (read_from 1 reading.First) (sym (append-nil lines)) ∙ f.reaches [] ∙ f.bad

end_first : (lines : List (List ℕ)) (why : LineError) (l : ℕ) → AtEnd lines why l → IsFirstFault lines l
end_first lines why l f =
    let here = f.here in
    let whole : take (l - 1) lines ≡ lines = take_all (l - 1) lines (omega (arith, here)) in (
      omega (arith, here),
      omega (arith, here),
      subst Begins (sym whole) (led_begins lines f.state f.led),
      λ within begins. absurd (omega (arith, within, here)),
      λ x r. fault_ok (why, l) x (sym (end_bad lines why l f) ∙ complete lines x r),
    )

found_first : (lines : List (List ℕ)) (why : LineError) (l : ℕ) → AtLine lines why l ⊎ AtEnd lines why l → IsFirstFault lines l
found_first lines why l (inl f) =
    subst (λ ls. IsFirstFault ls l) f.whole
    (line_first f.front f.state f.line f.others l f.here f.led (λ more x r. fault_ok (why, l) x (sym (bad_more lines why l f more) ∙ complete (f.front ++ f.line ∷ more) x r)))
found_first lines why l (inr f) = end_first lines why l f

-- the line of the fault is the first up to which the lines begin no input
pub first_fault : (lines : List (List ℕ)) (why : LineError) (l : ℕ) → read_from 1 reading.First lines ≡ Err (why, l) → IsFirstFault lines l
first_fault lines why l bad = found_first lines why l (fault_found lines why l bad)
