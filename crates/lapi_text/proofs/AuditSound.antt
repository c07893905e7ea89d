-- What is read as an audit's text is spelled so, within the limits.
use Rattle.std.proofs.Common.{◌≡◌, ℕ, ◌+◌, ◌≤◌, List, [], ◌∷◌, ◌++◌, length, map, refl, sym, ap, ◌∙◌, subst, true, false, cond, Result, Ok, Err, inl, inr, arith, append_assoc, nat_lt}
use Rattle.std.specs.Prelude.{codes, ◌⊎◌, IsTrue}
use Rattle.std.specs.List.{AllZip, AllByRecursion}
use Rattle.std.proofs.lemmas.List.{append-nil, map-append, length-append}
use Rattle.std.proofs.lemmas.Bool.{ltb-true, eqb-true, false≢true}
use Rattle.lapi_base.specs.declared.input.LineError.{LineError}
use Rattle.lapi_base.specs.declared.input.LineError.TheVariants.{Syntax}
use Rattle.lapi_base.specs.declared.input.Which.TheVariants as which
use Rattle.lapi_base.specs.declared.statement.Statement.{Statement}
use Rattle.lapi_base.specs.declared.event.Event.{Event}
use Rattle.lapi_base.specs.declared.script.Script.{Script}
use Rattle.lapi_base.specs.declared.audit_input.AuditInput.{AuditInput}
use Rattle.lapi_base.specs.Record.Valid.{ValidScript}
use Rattle.lapi_base.specs.Input.Lines.{words_of, is_clean, is_skipped, read_words}
use Rattle.lapi_base.specs.Input.Forms.{run, and_then, head_form, sizes_form, TaskLine, Task, Schedule, StatementLine, task_line_form}
use Rattle.lapi_base.specs.Input.Rows.{Column, IsRow, done_row, script_rows}
use Rattle.lapi_base.specs.Input.Reading as reading
use Rattle.lapi_base.specs.Input.Reading.{State, step, checked_sizes, keeps_pieces, keeps_bytes, is_word, at_line, with_task, on_first_task, on_task_line, on_statement}
use Rattle.lapi_base.specs.Input.AuditForms.{event_line_form}
use Rattle.lapi_base.specs.Input.AuditRows.{event_row, IsOfRequest, journal_row, audit_rows, most_events, IsAuditRead}
use Rattle.lapi_base.specs.Input.AuditReading.{AuditState, Before, Events, Ended, events_of, on_event, audit_step, audit_after, audit_of, read_audit_from}
use Rattle.lapi_text.proofs.Parts.{chosen}
use Rattle.lapi_text.proofs.Rules.{err_ok, same_Ok, bound, task_line_says}
use Rattle.lapi_text.proofs.AuditRules.{event_says, EventSays}
use Rattle.lapi_text.proofs.Sound.{allowed, passed, so_far, Keeps, step_says, schedule_keeps, all_push, is_one_word, fault_ok, same_read}
use Rattle.lapi_text.proofs.Complete.{one_word}

abbrev pub audit_with : Script → List Event → AuditInput
audit_with script journal = record { script = script; journal = journal }

-- ---- what a state stands for

-- a part of a script, of which more is awaited
abbrev pub IsScript : State → Type 0
IsScript reading.First = Unit {0}
IsScript (reading.Second layout) = Unit {0}
IsScript (reading.Start script) = Unit {0}
IsScript (reading.Tasks script current) = Unit {0}
IsScript (reading.Lines script schedule) = ⊥
IsScript (reading.Finished x) = ⊥

-- the rows that led to it
abbrev pub audit_so_far : AuditState → List (List Column)
audit_so_far (Before state) = so_far state
audit_so_far (Events script journal) = script_rows script ++ (journal_row ∷ map event_row journal)
audit_so_far (Ended x) = audit_rows x

pub record AuditFits (x : AuditInput) : Type 0 where
  pub script : ValidScript x.script
  pub few : length x.journal ≤ most_events
  pub requests : AllByRecursion IsOfRequest x.journal

-- the limits that it keeps
abbrev pub AuditKeeps : AuditState → Type 0
AuditKeeps (Before state) = Keeps state × IsScript state
AuditKeeps (Events script journal) = AuditFits (audit_with script journal)
AuditKeeps (Ended x) = AuditFits x

-- one row more
pub record AuditAdds (state next : AuditState) (words : List (List ℕ)) : Type 0 where
  pub keeps : AuditKeeps next
  pub row : List Column
  pub rows : audit_so_far next ≡ audit_so_far state ++ row ∷ []
  pub spelled : IsRow row words

-- ---- a line of the script

-- only the line `schedule` ends a script
statement_stays : (script : Script) (current : List Statement) (s : Statement) (next : State) → on_statement script current s ≡ Ok next → IsScript next
statement_stays script current s next e =
    let a = allowed (nat_lt (length current) 512) which.Statements _ next e in
    let b = allowed (keeps_pieces s) which.Pieces _ next a.1 in
    let c = allowed (keeps_bytes s) which.Bytes _ next b.1 in
    subst IsScript (same_Ok (reading.Tasks script (current ++ s ∷ [])) next c.1) tt

task_line_stays : (script : Script) (current : List Statement) (line : TaskLine) (next : State) (words : List (List ℕ)) → is_word (codes "schedule") words ≡ false → run task_line_form words ≡ Ok line → on_task_line script current line ≡ Ok next → IsScript next
task_line_stays script current (Task t) next words other e h = subst IsScript (same_Ok _ _ (passed _ _ next h).1) tt
task_line_stays script current Schedule next words other e h =
    absurd (false≢true (sym other ∙ one_word (codes "schedule") words (task_line_says words Schedule e)))
task_line_stays script current (StatementLine s) next words other e h = statement_stays script current s next h

first_task_stays : (script : Script) (line : TaskLine) (next : State) → on_first_task script line ≡ Ok next → IsScript next
first_task_stays script (Task t) next h = subst IsScript (same_Ok _ _ (passed _ _ next h).1) tt
first_task_stays script Schedule next h = absurd (err_ok Syntax next h)
first_task_stays script (StatementLine s) next h = absurd (err_ok Syntax next h)

pub stays : (state next : State) (words : List (List ℕ)) → IsScript state → is_word (codes "schedule") words ≡ false → step state words ≡ Ok next → IsScript next
unfolding step
stays reading.First next words is other e =
    let h = bound (run head_form words) _ next e in
    subst IsScript (same_Ok _ _ (passed _ _ next h.2).1) tt
stays (reading.Second layout) next words is other e =
    let h = bound (run (sizes_form layout) words) _ next e in
    let c = bound (checked_sizes h.0) _ next h.2 in
    subst IsScript (same_Ok _ _ c.2) tt
stays (reading.Start script) next words is other e =
    let h = bound (run task_line_form words) _ next e in
    first_task_stays script h.0 next h.2
stays (reading.Tasks script current) next words is other e =
    let h = bound (run task_line_form words) _ next e in
    task_line_stays script current h.0 next words other h.1 h.2
stays (reading.Lines script schedule) next words is other e = absurd is
stays (reading.Finished x) next words is other e = absurd is

-- the line `journal` behind the last task
journal_adds : (state mid : State) (next : AuditState) (words : List (List ℕ)) → Keeps state → IsScript state → words ≡ codes "journal" ∷ [] → step state (codes "schedule" ∷ []) ≡ Ok mid → events_of mid ≡ Ok next
    → AuditAdds (Before state) next words
unfolding step head_form sizes_form task_line_form
journal_adds reading.First mid next words keeps is word e h = absurd (err_ok Syntax mid e)
journal_adds (reading.Second layout) mid next words keeps is word e h = absurd (err_ok Syntax mid e)
journal_adds (reading.Start script) mid next words keeps is word e h = absurd (err_ok Syntax mid e)
journal_adds (reading.Tasks script current) mid next words keeps is word e h =
    let p = passed _ _ mid e in
    let to : events_of (reading.Lines (with_task script current) []) ≡ Ok next = subst (λ m. events_of m ≡ Ok next) (sym (same_Ok _ _ p.1)) h in
    let fits = schedule_keeps script current keeps (eqb-true _ _ p.0) in
    subst (λ n. AuditAdds (Before (reading.Tasks script current)) n words) (same_Ok _ _ to) (record {
      keeps = record { script = fits.script; few = omega arith; requests = tt };
      row = journal_row;
      rows = refl;
      spelled = rw word (refl, tt);
    })
journal_adds (reading.Lines script schedule) mid next words keeps is word e h = absurd is
journal_adds (reading.Finished x) mid next words keeps is word e h = absurd is

script_adds : (state mid : State) (next : AuditState) (words : List (List ℕ)) → Keeps state → IsScript state → is_word (codes "schedule") words ≡ false → step state words ≡ Ok mid → Before mid ≡ next
    → AuditAdds (Before state) next words
script_adds state mid next words keeps is other e to =
    let a = step_says state mid words keeps e in
    subst (λ n. AuditAdds (Before state) n words) to (record { keeps = (a.keeps, stays state mid words is other e); row = a.row; rows = a.rows; spelled = a.spelled })

before_adds : (state : State) (next : AuditState) (words : List (List ℕ)) → Keeps state → IsScript state → audit_step (Before state) words ≡ Ok next → AuditAdds (Before state) next words
unfolding audit_step
before_adds state next words keeps is e = at (chosen _ _ _ _ e)
  where
    Step : Type 0
    Step = and_then (step state words) (λ mid. Ok (Before mid)) ≡ Ok next

    other : ((is_word (codes "schedule") words ≡ true) × (◌≡◌ {A = Result AuditState LineError} (Err Syntax) (Ok next))) ⊎ ((is_word (codes "schedule") words ≡ false) × Step) → AuditAdds (Before state) next words
    other (inl h) = absurd (err_ok Syntax next h.1)
    other (inr h) =
        let b = bound (step state words) (λ mid. Ok (Before mid)) next h.1 in
        script_adds state b.0 next words keeps is h.0 b.1 (same_Ok _ _ b.2)

    at : ((is_word (codes "journal") words ≡ true) × (and_then (step state (codes "schedule" ∷ [])) events_of ≡ Ok next))
        ⊎ ((is_word (codes "journal") words ≡ false) × (cond (is_word (codes "schedule") words) (Err Syntax) (and_then (step state words) (λ mid. Ok (Before mid))) ≡ Ok next)) → AuditAdds (Before state) next words
    at (inl h) =
        let b = bound (step state (codes "schedule" ∷ [])) events_of next h.1 in
        journal_adds state b.0 next words keeps is (is_one_word (codes "journal") words h.0) b.1 b.2
    at (inr h) = other (chosen _ _ _ _ h.1)

-- ---- a line of an event

event_adds : (script : Script) (journal : List Event) (next : AuditState) (words : List (List ℕ)) (e : Event) → AuditFits (audit_with script journal) → EventSays e words → on_event script journal e ≡ Ok next
    → AuditAdds (Events script journal) next words
event_adds script journal next words e keeps says h =
    let a = allowed (nat_lt (length journal) most_events) which.Events (Ok (Events script (journal ++ e ∷ []))) next h in
    let len : length (journal ++ e ∷ []) ≡ length journal + 1 = length-append journal (e ∷ []) in
    subst (λ n. AuditAdds (Events script journal) n words) (same_Ok _ _ a.1) (record {
      keeps = record {
        script = keeps.script;
        few = omega (arith, len, ltb-true _ _ a.0);
        requests = all_push IsOfRequest journal e keeps.requests says.request;
      };
      row = event_row e;
      rows = ap (λ r. script_rows script ++ journal_row ∷ r) (map-append event_row journal (e ∷ []))
          ∙ sym (append_assoc (script_rows script) (journal_row ∷ map event_row journal) (event_row e ∷ []));
      spelled = says.row;
    })

events_add : (script : Script) (journal : List Event) (next : AuditState) (words : List (List ℕ)) → AuditFits (audit_with script journal) → audit_step (Events script journal) words ≡ Ok next → AuditAdds (Events script journal) next words
unfolding audit_step
events_add script journal next words keeps e = at (chosen _ _ _ _ e)
  where
    at : ((is_word (codes "done") words ≡ true) × (◌≡◌ {A = Result AuditState LineError} (Ok (Ended (audit_with script journal))) (Ok next)))
        ⊎ ((is_word (codes "done") words ≡ false) × (and_then (run event_line_form words) (on_event script journal) ≡ Ok next)) → AuditAdds (Events script journal) next words
    at (inl h) = subst (λ n. AuditAdds (Events script journal) n words) (same_Ok _ _ h.1) (record {
      keeps = keeps;
      row = done_row;
      rows = sym (append_assoc (script_rows script) (journal_row ∷ map event_row journal) (done_row ∷ []));
      spelled = rw (is_one_word (codes "done") words h.0) (refl, tt);
    })
    at (inr h) =
        let b = bound (run event_line_form words) (on_event script journal) next h.1 in
        event_adds script journal next words b.0 keeps (event_says words b.0 b.1) b.2

nothing_adds : (x : AuditInput) (next : AuditState) (words : List (List ℕ)) → audit_step (Ended x) words ≡ Ok next → AuditAdds (Ended x) next words
unfolding audit_step
nothing_adds x next words e = absurd (err_ok Syntax next e)

-- a line adds its row
pub audit_step_says : (state next : AuditState) (words : List (List ℕ)) → AuditKeeps state → audit_step state words ≡ Ok next → AuditAdds state next words
audit_step_says (Before state) next words keeps e = before_adds state next words keeps.0 keeps.1 e
audit_step_says (Events script journal) next words keeps e = events_add script journal next words keeps e
audit_step_says (Ended x) next words keeps e = nothing_adds x next words e

-- ---- all lines from a state on

pub record AuditGoes (state : AuditState) (x : AuditInput) (lines : List (List ℕ)) : Type 0 where
  pub more : List (List Column)
  pub whole : audit_rows x ≡ audit_so_far state ++ more
  pub clean : AllByRecursion (λ line. IsTrue (is_clean line)) lines
  pub spelled : AllZip IsRow more (read_words lines)
  pub fits : AuditFits x

at_the_end : (l : ℕ) (state : AuditState) (x : AuditInput) → AuditKeeps state → audit_of l state ≡ Ok x → AuditGoes state x []
at_the_end l (Before state) x keeps e = absurd (fault_ok _ x e)
at_the_end l (Events script journal) x keeps e = absurd (fault_ok _ x e)
at_the_end l (Ended y) x keeps e =
    subst (λ x. AuditGoes (Ended y) x []) (same_read y x e) (record { more = []; whole = sym (append-nil (audit_rows y)); clean = tt; spelled = tt; fits = keeps })

line_ok : (l : ℕ) (r : Result AuditState LineError) (f : AuditState → Result AuditInput (LineError × ℕ)) (x : AuditInput) → at_line l r f ≡ Ok x → (next : AuditState) × (r ≡ Ok next) × (f next ≡ Ok x)
line_ok l (Ok next) f x e = (next, refl, e)
line_ok l (Err w) f x e = absurd (fault_ok _ x e)

-- what a clean line comes to: nothing where it is skipped, and else a row
abbrev pub AuditComes : AuditState → AuditState → List ℕ → Type 0
AuditComes state next line = ((is_skipped (words_of line) ≡ true) × (state ≡ next)) ⊎ ((is_skipped (words_of line) ≡ false) × AuditAdds state next (words_of line))

pub audit_after_says : (state next : AuditState) (line : List ℕ) → AuditKeeps state → audit_after state line ≡ Ok next → (is_clean line ≡ true) × AuditComes state next line
unfolding audit_after
audit_after_says state next line keeps e =
    let p = passed _ _ next e in
    (p.0, at (chosen _ _ _ _ p.1))
  where
    at : ((is_skipped (words_of line) ≡ true) × (◌≡◌ {A = Result AuditState LineError} (Ok state) (Ok next))) ⊎ ((is_skipped (words_of line) ≡ false) × (audit_step state (words_of line) ≡ Ok next)) → AuditComes state next line
    at (inl h) = inl (h.0, same_Ok _ _ h.1)
    at (inr h) = inr (h.0, audit_step_says state next (words_of line) keeps h.1)

skipped_line : (state : AuditState) (x : AuditInput) (line : List ℕ) (lines : List (List ℕ)) → is_clean line ≡ true → is_skipped (words_of line) ≡ true → AuditGoes state x lines → AuditGoes state x (line ∷ lines)
skipped_line state x line lines clean skipped g = record { more = g.more; whole = g.whole; clean = (clean, g.clean); spelled = rw skipped g.spelled; fits = g.fits }

row_line : (state next : AuditState) (x : AuditInput) (line : List ℕ) (lines : List (List ℕ)) → is_clean line ≡ true → is_skipped (words_of line) ≡ false → AuditAdds state next (words_of line) → AuditGoes next x lines
    → AuditGoes state x (line ∷ lines)
row_line state next x line lines clean skipped a g = record {
  more = a.row ∷ g.more;
  whole = g.whole ∙ ap (λ r. r ++ g.more) a.rows ∙ append_assoc (audit_so_far state) (a.row ∷ []) g.more;
  clean = (clean, g.clean);
  spelled = rw skipped (a.spelled, g.spelled);
  fits = g.fits;
}

lines_say : (l : ℕ) (state : AuditState) (lines : List (List ℕ)) (x : AuditInput) → AuditKeeps state → read_audit_from l state lines ≡ Ok x → AuditGoes state x lines
lines_say l state [] x keeps e = at_the_end l state x keeps e
lines_say l state (line ∷ lines) x keeps e =
    let n = line_ok l (audit_after state line) _ x e in
    at n.0 (audit_after_says state n.0 line keeps n.1) (λ k. lines_say (l + 1) n.0 lines x k n.2)
  where
    at : (next : AuditState) → (is_clean line ≡ true) × AuditComes state next line → (AuditKeeps next → AuditGoes next x lines) → AuditGoes state x (line ∷ lines)
    at next (clean, inl h) rest = skipped_line state x line lines clean h.0 (subst (λ s. AuditGoes s x lines) (sym h.1) (rest (subst AuditKeeps h.1 keeps)))
    at next (clean, inr h) rest = row_line state next x line lines clean h.0 h.1 (rest h.1.keeps)

-- what is read is spelled so
pub audit_sound : (lines : List (List ℕ)) (x : AuditInput) → read_audit_from 1 (Before reading.First) lines ≡ Ok x → IsAuditRead x lines
audit_sound lines x e =
    let g = lines_say 1 (Before reading.First) lines x (tt, tt) e in
    record {
      clean = g.clean;
      rows = subst (λ rs. AllZip IsRow rs (read_words lines)) (sym g.whole) g.spelled;
      script = g.fits.script;
      few = g.fits.few;
      requests = g.fits.requests;
    }
