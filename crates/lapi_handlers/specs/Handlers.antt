-- The rules that the stored closures keep.
use Rattle.std.specs.Prelude.{map}
use Rattle.lapi_base.specs.declared.rule.Rules.{Rules}
use Rattle.lapi_handlers.specs.declared.handlers.Handlers.{Handlers}

abbrev pub rules_of : {v w a b g h : _} → Handlers v w a b g h → Rules
rules_of handlers =
    record {
      headers = map (λ f. f.rule) handlers.headers.items;
      completions = map (λ f. f.rule) handlers.completions.items;
    }
