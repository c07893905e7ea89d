-- The line of a fault of an audit's text is the first up to which the lines begin none.
use Rattle.std.proofs.Common.{◌≡◌, ℕ, suc, ◌+◌, ◌-◌, List, [], ◌∷◌, ◌++◌, length, take, map, refl, sym, ap, ◌∙◌, subst, true, Result, Ok, Err, inl, inr, arith, append_assoc}
use Rattle.std.specs.Prelude.{◌⊎◌, IsTrue}
use Rattle.std.specs.List.{AllZip, AllByRecursion}
use Rattle.std.proofs.lemmas.List.{append-nil, length-append, take_at, take_all}
use Rattle.lapi_base.specs.declared.input.LineError.{LineError}
use Rattle.lapi_base.specs.declared.audit_input.AuditInput.{AuditInput}
use Rattle.lapi_base.specs.Input.Lines.{words_of, is_clean, read_words}
use Rattle.lapi_base.specs.Input.FirstFaults.{BeginsBy}
use Rattle.lapi_base.specs.Input.Rows.{Column, IsRow, done_row, script_rows, row_line}
use Rattle.lapi_base.specs.Input.AuditRows.{event_row, journal_row, audit_rows, IsAuditRead, IsFirstAuditFault}
use Rattle.lapi_base.specs.Input.Reading as reading
use Rattle.lapi_base.specs.Input.Reading.{State, at_line, Fault}
use Rattle.lapi_base.specs.Input.AuditReading.{AuditState, Before, Events, Ended, audit_after, audit_of, read_audit_from}
use Rattle.lapi_text.proofs.Sound.{so_far, Keeps, fault_ok}
use Rattle.lapi_text.proofs.Canon.{RowFits, lines_clean, lines_stand, all_append, done_fits, journal_fits}
use Rattle.lapi_text.proofs.First.{ScriptCompletes, first_completes, second_completes, start_completes, tasks_complete, zip_append, words_append, up_to}
use Rattle.lapi_text.proofs.AuditSound.{IsScript, audit_so_far, audit_with, AuditFits, AuditKeeps, AuditComes, audit_after_says}
use Rattle.lapi_text.proofs.AuditComplete.{audit_complete}

-- rows that lead from a state to an audit's text
record Completes (state : AuditState) : Type 0 where
  x : AuditInput
  more : List (List Column)
  whole : audit_rows x ≡ audit_so_far state ++ more
  fits : AuditFits x
  texts : AllByRecursion RowFits more

script_completes : (state : State) → Keeps state → IsScript state → ScriptCompletes state
script_completes reading.First keeps is = first_completes
script_completes (reading.Second layout) keeps is = second_completes layout keeps
script_completes (reading.Start script) keeps is = start_completes script keeps.0 keeps.1
script_completes (reading.Tasks script current) keeps is = tasks_complete script current keeps
script_completes (reading.Lines script schedule) keeps is = absurd is
script_completes (reading.Finished x) keeps is = absurd is

-- a script, and no events
before_completes : (state : State) → ScriptCompletes state → Completes (Before state)
before_completes state c =
    let tail : List (List Column) = journal_row ∷ done_row ∷ [] in
    record {
      x = audit_with c.script [];
      more = c.more ++ tail;
      whole = ap (λ r. r ++ tail) c.whole ∙ append_assoc (so_far state) c.more tail;
      fits = record { script = c.fits.script; few = omega arith; requests = tt };
      texts = all_append RowFits c.more tail c.texts (journal_fits, (done_fits, tt));
    }

-- each state that keeps the limits leads to an audit's text
completes : (state : AuditState) → AuditKeeps state → Completes state
completes (Before state) keeps = before_completes state (script_completes state keeps.0 keeps.1)
completes (Events script journal) keeps = record {
  x = audit_with script journal;
  more = done_row ∷ [];
  whole = sym (append_assoc (script_rows script) (journal_row ∷ map event_row journal) (done_row ∷ []));
  fits = keeps;
  texts = (done_fits, tt);
}
completes (Ended x) keeps = record { x = x; more = []; whole = sym (append-nil (audit_rows x)); fits = keeps; texts = tt }

-- the lines that lead to a state
record Led (front : List (List ℕ)) (state : AuditState) : Type 0 where
  keeps : AuditKeeps state
  clean : AllByRecursion (λ line. IsTrue (is_clean line)) front
  rows : AllZip IsRow (audit_so_far state) (read_words front)

led_begins : (front : List (List ℕ)) (state : AuditState) → Led front state → BeginsBy IsAuditRead front
led_begins front state led =
    let c = completes state led.keeps in
    let rest = map row_line c.more in (
      c.x,
      rest,
      record {
        clean = all_append _ front rest led.clean (lines_clean c.more c.texts);
        rows = subst (λ ws. AllZip IsRow (audit_rows c.x) ws) (sym (words_append front rest)) (subst (λ rs. AllZip IsRow rs (read_words front ++ read_words rest)) (sym c.whole)
            (zip_append IsRow (audit_so_far state) c.more (read_words front) (read_words rest) led.rows (lines_stand c.more c.texts)));
        script = c.fits.script;
        few = c.fits.few;
        requests = c.fits.requests;
      },
    )

-- one line more
led_on : (front : List (List ℕ)) (line : List ℕ) (state next : AuditState) → Led front state → audit_after state line ≡ Ok next → Led (front ++ line ∷ []) next
led_on front line state next led e = at (audit_after_says state next line led.keeps e)
  where
    one : is_clean line ≡ true → AllByRecursion (λ line. IsTrue (is_clean line)) (front ++ line ∷ [])
    one clean = all_append _ front (line ∷ []) led.clean (clean, tt)

    at : (is_clean line ≡ true) × AuditComes state next line → Led (front ++ line ∷ []) next
    at (clean, inl h) =
        let same : read_words (front ++ line ∷ []) ≡ read_words front = words_append front (line ∷ []) ∙ rw h.0 (append-nil (read_words front)) in
        record { keeps = subst AuditKeeps h.1 led.keeps; clean = one clean; rows = subst (λ ws. AllZip IsRow (audit_so_far next) ws) (sym same) (subst (λ s. AllZip IsRow (audit_so_far s) (read_words front)) h.1 led.rows) }
    at (clean, inr h) =
        let more : read_words (front ++ line ∷ []) ≡ read_words front ++ words_of line ∷ [] = words_append front (line ∷ []) ∙ rw h.0 refl in
        record {
          keeps = h.1.keeps;
          clean = one clean;
          rows = subst (λ ws. AllZip IsRow (audit_so_far next) ws) (sym more) (subst (λ rs. AllZip IsRow rs (read_words front ++ words_of line ∷ [])) (sym h.1.rows)
              (zip_append IsRow (audit_so_far state) (h.1.row ∷ []) (read_words front) (words_of line ∷ []) led.rows (h.1.spelled, tt)));
        }

-- ---- where a fault is

-- reading what begins with this front goes on from the state
abbrev Reaches : List (List ℕ) → ℕ → AuditState → Type 0
Reaches front k state = (more : List (List ℕ)) → read_audit_from 1 (Before reading.First) (front ++ more) ≡ read_audit_from k state more

-- at a line, the front before which leads to a state
record AtLine (lines : List (List ℕ)) (why : LineError) (l : ℕ) : Type 0 where
  front : List (List ℕ)
  state : AuditState
  line : List ℕ
  others : List (List ℕ)
  whole : front ++ line ∷ others ≡ lines
  here : l ≡ length front + 1
  led : Led front state
  reaches : Reaches front l state
  bad : audit_after state line ≡ Err why

-- or after the last line
record AtEnd (lines : List (List ℕ)) (why : LineError) (l : ℕ) : Type 0 where
  state : AuditState
  here : l ≡ length lines + 1
  led : Led lines state
  reaches : Reaches lines l state
  bad : audit_of l state ≡ Err (why, l)

-- the line of a fault
abbrev line_of_fault : Result AuditInput Fault → ℕ
line_of_fault (Ok x) = 0
line_of_fault (Err e) = e.1

ended_at : (k : ℕ) (state : AuditState) (why : LineError) (l : ℕ) → audit_of k state ≡ Err (why, l) → k ≡ l
ended_at k (Before state) why l e = ap line_of_fault e
ended_at k (Events script journal) why l e = ap line_of_fault e
ended_at k (Ended x) why l e = absurd (fault_ok (why, l) x (sym e))

end_found : (front : List (List ℕ)) (k : ℕ) (state : AuditState) (why : LineError) (l : ℕ) → k ≡ length front + 1 → Led front state → Reaches front k state → audit_of k state ≡ Err (why, l) → k ≡ l → AtEnd front why l
end_found front k state why l here led reaches bad is = record {
  state = state;
  here = sym is ∙ here;
  led = led;
  reaches = subst (λ n. Reaches front n state) is reaches;
  bad = subst (λ n. audit_of n state ≡ Err (why, l)) is bad;
}

same_fault : (a b : Fault) → ◌≡◌ {A = Result AuditInput Fault} (Err a) (Err b) → a ≡ b
same_fault a b e = cc

line_found : (front : List (List ℕ)) (k : ℕ) (state : AuditState) (line : List ℕ) (others : List (List ℕ)) (v why : LineError) (l : ℕ) → k ≡ length front + 1 → Led front state → Reaches front k state → audit_after state line ≡ Err v
    → ◌≡◌ {A = Fault} (v, k) (why, l) → AtLine (front ++ line ∷ others) why l
line_found front k state line others v why l here led reaches bad is =
    let at : k ≡ l = ap (λ (f : Fault). f.1) is in
    record {
      front = front;
      state = state;
      line = line;
      others = others;
      whole = refl;
      here = sym at ∙ here;
      led = led;
      reaches = subst (λ n. Reaches front n state) at reaches;
      bad = bad ∙ ap (λ (f : Fault). Err f.0) is;
    }

walk : (lines front : List (List ℕ)) (k : ℕ) (state : AuditState) (why : LineError) (l : ℕ) → k ≡ length front + 1 → Led front state → Reaches front k state → read_audit_from k state lines ≡ Err (why, l)
    → AtLine (front ++ lines) why l ⊎ AtEnd (front ++ lines) why l
walk [] front k state why l here led reaches bad = inr (subst (λ ls. AtEnd ls why l) (sym (append-nil front)) (end_found front k state why l here led reaches bad (ended_at k state why l bad)))
walk (line ∷ lines) front k state why l here led reaches bad =
    at (audit_after state line) refl bad (λ next led2 reaches2 bad2. walk lines (front ++ line ∷ []) (k + 1) next why l (omega (arith, here, length-append front (line ∷ []))) led2 reaches2 bad2)
  where
    Found : List (List ℕ) → Type 0
    Found ls = AtLine ls why l ⊎ AtEnd ls why l

    at : (r : Result AuditState LineError) → audit_after state line ≡ r → at_line k r (λ next. read_audit_from (k + 1) next lines) ≡ Err (why, l)
        → ((next : AuditState) → Led (front ++ line ∷ []) next → Reaches (front ++ line ∷ []) (k + 1) next → read_audit_from (k + 1) next lines ≡ Err (why, l) → Found ((front ++ line ∷ []) ++ lines)) → Found (front ++ line ∷ lines)
    at (Ok next) is e rest =
        subst Found (append_assoc front (line ∷ []) lines)
        (rest next (led_on front line state next led is) (λ more. ap (read_audit_from 1 (Before reading.First)) (append_assoc front (line ∷ []) more) ∙ reaches (line ∷ more) ∙ rw is refl) e)
    at (Err v) is e rest = inl (line_found front k state line lines v why l here led reaches is (same_fault (v, k) (why, l) e))

fault_found : (lines : List (List ℕ)) (why : LineError) (l : ℕ) → read_audit_from 1 (Before reading.First) lines ≡ Err (why, l) → AtLine lines why l ⊎ AtEnd lines why l
fault_found lines why l bad = walk lines [] 1 (Before reading.First) why l refl (record { keeps = (tt, tt); clean = tt; rows = tt }) (λ more. refl) bad

-- a line that is faulty behind a front is it whatever follows
bad_more : (lines : List (List ℕ)) (why : LineError) (l : ℕ) (f : AtLine lines why l) (more : List (List ℕ)) → read_audit_from 1 (Before reading.First) (f.front ++ f.line ∷ more) ≡ Err (why, l)
bad_more lines why l f more = f.reaches (f.line ∷ more) ∙ rw f.bad refl

line_first : (front : List (List ℕ)) (state : AuditState) (line : List ℕ) (others : List (List ℕ)) (l : ℕ) → l ≡ length front + 1 → Led front state → ((more : List (List ℕ)) (x : AuditInput) → IsAuditRead x (front ++ line ∷ more) → ⊥)
    → IsFirstAuditFault (front ++ line ∷ others) l
line_first front state line others l here led fails =
    let len : length (front ++ line ∷ others) ≡ length front + suc (length others) = length-append front (line ∷ others) in
    let before : take (l - 1) (front ++ line ∷ others) ≡ front = take_at front (line ∷ others) (l - 1) (omega (arith, here)) in (
      omega (arith, here),
      omega (arith, here, len),
      subst (BeginsBy IsAuditRead) (sym before) (led_begins front state led),
      λ within begins. let b = subst (BeginsBy IsAuditRead) (up_to front line others l here) begins in fails b.1 b.0 (subst (λ ls. IsAuditRead b.0 ls) (append_assoc front (line ∷ []) b.1) b.2),
      λ x r. fails others x r,
    )

end_bad : (lines : List (List ℕ)) (why : LineError) (l : ℕ) → AtEnd lines why l → read_audit_from 1 (Before reading.First) lines ≡ Err (why, l)
end_bad lines why l f = ap (read_audit_from 1 (Before reading.First)) (sym (append-nil lines)) ∙ f.reaches [] ∙ f.bad

end_first : (lines : List (List ℕ)) (why : LineError) (l : ℕ) → AtEnd lines why l → IsFirstAuditFault lines l
end_first lines why l f =
    let here = f.here in
    let whole : take (l - 1) lines ≡ lines = take_all (l - 1) lines (omega (arith, here)) in (
      omega (arith, here),
      omega (arith, here),
      subst (BeginsBy IsAuditRead) (sym whole) (led_begins lines f.state f.led),
      λ within begins. absurd (omega (arith, within, here)),
      λ x r. fault_ok (why, l) x (sym (end_bad lines why l f) ∙ audit_complete lines x r),
    )

found_first : (lines : List (List ℕ)) (why : LineError) (l : ℕ) → AtLine lines why l ⊎ AtEnd lines why l → IsFirstAuditFault lines l
found_first lines why l (inl f) =
    subst (λ ls. IsFirstAuditFault ls l) f.whole
    (line_first f.front f.state f.line f.others l f.here f.led (λ more x r. fault_ok (why, l) x (sym (bad_more lines why l f more) ∙ audit_complete (f.front ++ f.line ∷ more) x r)))
found_first lines why l (inr f) = end_first lines why l f

-- the line of the fault is the first up to which the lines begin no audit's text
pub audit_first_fault : (lines : List (List ℕ)) (why : LineError) (l : ℕ) → read_audit_from 1 (Before reading.First) lines ≡ Err (why, l) → IsFirstAuditFault lines l
audit_first_fault lines why l bad = found_first lines why l (fault_found lines why l bad)
