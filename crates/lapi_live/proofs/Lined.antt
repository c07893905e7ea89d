-- Entries and the lines that they are of.
use Rattle.std.proofs.Common.{◌≡◌, ℕ, Bool, true, false, List, [], ◌∷◌, ◌++◌, refl, sym, ap, ◌∙◌, subst, ◌⊎◌, ⊎_elim}
use Rattle.std.specs.List.{AllByRecursion}
use Rattle.std.specs.Int.{bit_at}
use Rattle.std.proofs.lemmas.List.{map-append}
use Rattle.lapi_base.specs.declared.schedule.Line.{Line}
use Rattle.lapi_base.proofs.ListLaws.{all-append}
use Rattle.lapi_turn.specs.Entries.{Entry, NoneNeeds, Follows, list_after}
use Rattle.lapi_base.specs.Record.Lanes.{lane_of}
use Rattle.lapi_live.specs.Histories.{IsForeign, GoesOn}
use Rattle.lapi_live.specs.Rooms.{entry_of, entries_of, numbers_of, IsLined}

pub numbers-entries : (schedule : List Line) (lines : List ℕ) → numbers_of (entries_of schedule lines) ≡ lines
numbers-entries schedule [] = refl
numbers-entries schedule (n ∷ ns) = ap (λ (l : List ℕ). n ∷ l) (numbers-entries schedule ns)

pub entries-lined : (schedule : List Line) (lines : List ℕ) → IsLined schedule (entries_of schedule lines)
entries-lined schedule [] = tt
entries-lined schedule (n ∷ ns) = (refl, entries-lined schedule ns)

pub entries-more : (schedule : List Line) (lines : List ℕ) (n : ℕ) → entries_of schedule (lines ++ n ∷ []) ≡ entries_of schedule lines ++ entry_of schedule n ∷ []
entries-more schedule lines n = map-append (entry_of schedule) lines (n ∷ [])

pub lined-rest : (schedule : List Line) (xs ys : List Entry) → IsLined schedule (xs ++ ys) → IsLined schedule ys
lined-rest schedule [] ys h = h
lined-rest schedule (x ∷ xs) ys h = lined-rest schedule xs ys h.1

pub lined-after : (schedule : List Line) (b : Bool) (list : List Entry) (n : ℕ) → IsLined schedule list → IsLined schedule (list_after b list (entry_of schedule n))
lined-after schedule true list n h = all-append (λ (e : Entry). e.1 ≡ lane_of schedule e.0) list (entry_of schedule n ∷ []) h (refl, tt)
lined-after schedule false list n h = h

foreign : (schedule : List Line) (lanes : ℕ) (rest : List Entry) → IsLined schedule rest → NoneNeeds lanes rest → AllByRecursion (IsForeign schedule lanes) (numbers_of rest)
foreign schedule lanes [] l n = tt
foreign schedule lanes (e ∷ es) l n = (subst (λ (r : ℕ). bit_at lanes r ≡ 0) l.0 n.0, foreign schedule lanes es l.1 n.1)

-- a list of entries that follows is a history that goes on
pub goes_on : (schedule : List Line) (lanes : ℕ) (seen list : List Entry) → IsLined schedule list → Follows seen lanes list → GoesOn schedule lanes (numbers_of seen) (numbers_of list)
goes_on schedule lanes seen list l f = (
  numbers_of f.0,
  ap numbers_of f.1 ∙ map-append (λ (e : Entry). e.0) seen f.0,
  foreign schedule lanes f.0 (lined-rest schedule seen f.0 (subst (IsLined schedule) f.1 l)) f.2,
)

pub numbers-more : (list : List Entry) (e : Entry) → numbers_of (list ++ e ∷ []) ≡ numbers_of list ++ e.0 ∷ []
numbers-more list e = map-append (λ (x : Entry). x.0) list (e ∷ [])

pub lined-either : (schedule : List Line) (xs ys l : List Entry) → IsLined schedule xs → IsLined schedule ys → (l ≡ xs) ⊎ (l ≡ ys) → IsLined schedule l
lined-either schedule xs ys l h k either = ⊎_elim (λ e. subst (IsLined schedule) (sym e) h) (λ e. subst (IsLined schedule) (sym e) k) either
