-- What a sending end tells of where an acknowledgement covers numbers alone that were sent.
use Rattle.std.proofs.Common.{◌≡◌, ℕ, ◌+◌, ◌<◌, ◌≤◌, Bool, true, false, cond, ◌&&◌, not, List, length, Some, refl, sym, ap, ◌∙◌, subst, ⊎_elim, arith}
use Rattle.std.specs.Prelude.{slice_get, slice_index}
use Rattle.std.specs.List.{AllByRecursion}
use Rattle.std.proofs.lemmas.Bool.{cases_eq}
use Rattle.lapi_base.specs.declared.script.Script.{Script}
use Rattle.lapi_base.specs.declared.rule.Rules.{Rules}
use Rattle.lapi_base.specs.declared.message.Leg.TheVariants.{Go}
use Rattle.lapi_base.specs.declared.message.MsgName.{MsgName}
use Rattle.lapi_base.specs.Laws.Copying.{unacknowledged}
use Rattle.lapi_base.specs.Record.Names.{message, happened, Copied}
use Rattle.lapi_base.specs.Record.Operations.{statements, statement, has_back, receiver}
use Rattle.lapi_base.specs.Record.Wires.{Run, numbered, is_of, is_acked}
use Rattle.lapi_base.proofs.ListLaws.{all-weaker}
use Rattle.lapi_link.specs.Sender.{SendingEnd, newly_acked}
use Rattle.lapi_parts.proofs.CopiedCounts.{count_in, uncopied-count, counted-same}
use Rattle.lapi_parts.proofs.Records.{record-sound}
use Rattle.lapi_parts.proofs.UnackedCounts.{count-parts}
use Rattle.lapi_window.specs.NumberSet.{is_covered}
use Rattle.lapi_window.specs.SendWindow as window
use Rattle.lapi_task.specs.declared.task.Task.{Task}
use Rattle.lapi_task.specs.HasEffect.{IsAt}
use Rattle.lapi_task.specs.MayReceive.{CoversSent}
use Rattle.lapi_task.specs.Sends.{SendsFor}
use Rattle.lapi_task.specs.StandsFor.{SenderAt}
use Rattle.lapi_task.specs.Unfinished.{times}
use Rattle.lapi_task.proofs.Acknowledging.UnfinishedAcks.{newly, counted, uncounted, elsewhere, tags-known}

-- a number that is covered and not acknowledged is one that is not acknowledged
split : (m c o : Bool) → cond (m && (c && not o)) 1 0 + cond (m && (not c && not o)) 1 0 ≡ cond (m && not o) 1 0
split false c o = refl
split true true true = refl
split true true false = refl
split true false true = refl
split true false false = refl

module _ (script : Script) (m : MsgName) where
  pub fewer : (pairs : List (MsgName × ℕ)) (covered acked : ℕ → Bool) → count_in script m pairs (λ n. covered n && not (acked n)) ≤ count_in script m pairs (λ n. not (acked n))
  unfolding count_in
  fewer pairs covered acked =
      let of = λ (n : ℕ). is_of script m (slice_get pairs n) in
      let parts = count-parts (length pairs) (λ n. of n && (covered n && not (acked n))) (λ n. of n && (not (covered n) && not (acked n))) (λ n. of n && not (acked n)) (λ n. split (of n) (covered n) (acked n)) in
      omega (arith, parts)

sender-is : (script : Script) (rules : Rules) (r : Run) (t b : ℕ) (ends : List SendingEnd) (end : SendingEnd) → slice_get ends b ≡ Some end → SenderAt script rules r t b (slice_get ends b) → SendsFor script rules end r t b
sender-is script rules r t b ends end there stands = subst (SenderAt script rules r t b) there stands

module _ (script : Script) (rules : Rules) (t : ℕ) (r : Run) (task : Task) (at : IsAt script rules t task r) (from base bits : ℕ) (known : from < script.tasks) (end : SendingEnd) (there : slice_get task.senders.items from ≡ Some end) (covers : CoversSent end base bits) where
  abbrev told : List ℕ
  told = newly_acked end base bits

  sends : SendsFor script rules end r t from
  sends = sender-is script rules r t from task.senders.items end there (at.stands.senders from known)

  abbrev first : ℕ → Bool
  first = newly script t rules from r.journal end sends.numbers.numbers sends.tags base bits covers

  pub tags-are-known : AllByRecursion (λ i. (i < length task.unfinished.left) × (i < length task.unfinished.undone)) told
  tags-are-known =
      let h = at.stands.unfinished in
      all-weaker (λ i. i < length (statements script t)) (λ i. (i < length task.unfinished.left) × (i < length task.unfinished.undone)) (λ i l. let a = h.size.0 in let b = h.size.1 in (omega (arith, l, b), omega (arith, l, a))) told
      (tags-known script t rules from r.journal end sends.numbers.numbers sends.tags base bits covers (record-sound script rules r at.recorded).atomic)

  few : (i : ℕ) → count_in script (message t i Go) (numbered script r.journal t from) first ≤ unacknowledged script rules r t i
  few i =
      let m = message t i Go in
      let b = receiver script m in
      ⊎_elim
      (λ (same : b ≡ from).
      let all = counted-same script rules r t i (λ n. window.is_acked end.window n) (λ n. ap (λ c. is_acked r t c n) same ∙ sends.numbers.acked n) in
      let less = fewer script m (numbered script r.journal t from) (is_covered base bits) (window.is_acked end.window) in
      let here : count_in script m (numbered script r.journal t b) (λ n. not (window.is_acked end.window n)) ≡ count_in script m (numbered script r.journal t from) (λ n. not (window.is_acked end.window n)) = ap (λ c. count_in script m (numbered script r.journal t c) (λ n. not (window.is_acked end.window n))) same in
      omega (arith, all, less, here))
      (λ (apart : b ≡ from → ⊥). let none = elsewhere script t rules from r.journal end sends.numbers.numbers sends.tags base bits covers i apart in omega (arith, none))
      (cases_eq b from)

  none-of : (i : ℕ) → happened (Copied (message t i Go)) r.journal ≡ false → count_in script (message t i Go) (numbered script r.journal t from) first ≡ 0
  none-of i new =
      let m = message t i Go in
      let b = receiver script m in
      ⊎_elim
      (λ (same : b ≡ from). ap (λ c. count_in script m (numbered script r.journal t c) first) (sym same) ∙ uncopied-count script m r.journal first new)
      (λ (apart : b ≡ from → ⊥). elsewhere script t rules from r.journal end sends.numbers.numbers sends.tags base bits covers i apart)
      (cases_eq b from)

  pub tags-are-left : (i : ℕ) → times i told ≤ slice_index task.unfinished.left i
  tags-are-left i =
      elim (has_back (statement script t i)) as (λ b. has_back (statement script t i) ≡ b → times i told ≤ slice_index task.unfinished.left i) [
        | true ↦ λ e. let z = uncounted script t rules from r.journal end sends.numbers.numbers sends.tags base bits covers i e in omega (arith, z)
        | false ↦ λ e. by e (happened (Copied (message t i Go)) r.journal) refl
      ] refl
    where
      by : has_back (statement script t i) ≡ false → (c : Bool) → happened (Copied (message t i Go)) r.journal ≡ c → times i told ≤ slice_index task.unfinished.left i
      by none true d =
          let a = counted script t rules from r.journal end sends.numbers.numbers sends.tags base bits covers i none in
          let b = at.stands.unfinished.left i none d in
          let c = few i in
          omega (arith, a, b, c)
      by none false d =
          let a = counted script t rules from r.journal end sends.numbers.numbers sends.tags base bits covers i none in
          let z = none-of i d in
          omega (arith, a, z)
