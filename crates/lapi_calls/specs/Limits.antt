-- The limits of a script by which its statements are refused.
use Rattle.std.specs.Prelude.{ℕ, ◌^◌, ◌<◌}
use Rattle.lapi_base.specs.declared.script.Script.{Script}
use Rattle.lapi_base.specs.Packet.Layout.{longest_of, longest_active_of}
use Rattle.lapi_calls.specs.declared.limits.Limits.{Limits}

-- with so many header handlers
abbrev pub limits_of : Script → (headers : ℕ) → Limits
limits_of script headers =
    record {
      tasks = script.tasks;
      memory = script.memory;
      counters = script.counters;
      longest = longest_of script;
      longest_active = longest_active_of script;
      headers = headers;
    }

-- the limits of memories and messages are numbers of 32 bits, as those of every script are
abbrev pub AreU32 : Limits → Type 0
AreU32 limits = (limits.memory < 2 ^ 32) × (limits.longest < 2 ^ 32)
