-- What a message that comes whole finds at its task.
use Rattle.std.proofs.Common.{◌≡◌, ◌+◌, ◌≤◌, ℕ, ◌<◌, Bool, List, length, Option, Some, None, sym, ◌∙◌, subst, arith}
use Rattle.std.proofs.lemmas.List.Elements.{All-from_recursion}
use Rattle.lapi_base.specs.declared.script.Script.{Script}
use Rattle.lapi_base.specs.declared.rule.Rules.{Rules}
use Rattle.lapi_base.specs.declared.head.Head.{Head}
use Rattle.lapi_base.specs.declared.span.Span.{Span}
use Rattle.lapi_base.specs.Laws.Receiving.{NamesCounter, SpansAreInMemory}
use Rattle.lapi_base.specs.Record.HeadSays.{announces, head_pieces, asked_pieces}
use Rattle.lapi_vector.specs.Pieces.{AreWithin}
use Rattle.lapi_task.specs.declared.collective.Collective.{Collective}
use Rattle.lapi_task.specs.HasRounds.{MayJoin}
use Rattle.lapi_task.specs.Landed.{HeadMayLand}
use Rattle.lapi_task.proofs.Following.FollowerParts.{total-is}
use Rattle.lapi_task.proofs.Receiving.ReceiveKinds.{IsThere, counter-later}

module _ (script : Script) (rules : Rules) where
  counter-there : (o : Option ℕ) (counters : List ℕ) → NamesCounter script o → length counters ≡ script.counters → (c : ℕ) → o ≡ Some c → c < length counters
  counter-there None counters h e c x = absurd (cc)
  counter-there (Some d) counters h e c x = let same : d ≡ c = cc in omega (arith, h, e, same)

  pieces-there : (pieces : List Span) (memory : List ℕ) → length memory ≡ script.memory → SpansAreInMemory script pieces → AreWithin pieces (length memory)
  pieces-there pieces memory e h = subst (AreWithin pieces) (sym e) (All-from_recursion (λ (p : Span). p.at + p.len ≤ script.memory) pieces h)

  -- A message whose places are there may land.
  pub suits-head : (a : ℕ) (h : Head) (completion : Bool) (len : ℕ) (memory counters : List ℕ) (collective : Collective) → IsThere script rules h len → length memory ≡ script.memory → length counters ≡ script.counters → MayJoin a h collective → HeadMayLand a h completion len memory counters collective
  suits-head a h completion len memory counters collective there places known joins = record {
    pieces = pieces-there (head_pieces h len) memory places there.pieces;
    total = λ off. total-is (head_pieces h len) ∙ there.total off;
    asked = pieces-there (asked_pieces h) memory places there.asked;
    counter = counter-there (announces h completion) counters (counter-later script rules h completion there.counter) known;
    joins = joins;
  }
