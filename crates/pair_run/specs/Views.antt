-- What a file says, without where its bytes lie in memory.
use Rattle.std.specs.Prelude.{ℕ, List, map, Result, Ok, Err}
use Rattle.script_player.specs.Boot.{boot_line}
use Rattle.script_player.specs.Meaning.{lines_of}
use Rattle.pair_run.specs.RunFile.{Action, ClientLine, RunFile, take, deliver, Means, unbooted, says, bad, refused}
use Rattle.pair_run.specs.declared.run_file.Action.{Action as ReadAction}
use Rattle.pair_run.specs.declared.run_file.Action.TheVariants as actions
use Rattle.pair_run.specs.declared.run_file.ClientLine.{ClientLine as ReadClientLine}
use Rattle.pair_run.specs.declared.run_file.RunFile.{RunFile as ReadRunFile}
use Rattle.pair_run.specs.declared.run_file.Unread.{Unread}
use Rattle.pair_run.specs.declared.run_file.Unread.TheVariants as unread

abbrev pub action_of : ReadAction → Action
action_of actions.Take = take
action_of (actions.Deliver bytes) = deliver bytes.items

abbrev pub client_line : ReadClientLine → ClientLine
client_line line = record { client = line.client; actions = map action_of line.actions.items }

abbrev pub run_file : ReadRunFile → RunFile
run_file file = record {
  boot = boot_line file.boot;
  epochs = file.epochs;
  steps = file.steps;
  clients = map client_line file.clients.items;
}

-- What comes of a file is what was answered of it.
abbrev pub IsReadAs : List ℕ → Result ReadRunFile Unread → Type 0
IsReadAs source (Ok file) = Means unbooted 0 (lines_of source) (says (run_file file))
IsReadAs source (Err (unread.Bad number)) = Means unbooted 0 (lines_of source) (bad number)
IsReadAs source (Err (unread.NoMemory wanted)) = Means unbooted 0 (lines_of source) refused
