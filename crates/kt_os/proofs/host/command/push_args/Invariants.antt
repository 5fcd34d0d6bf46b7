use Rattle.std.proofs.Common.{◌≡◌, ◌++◌, map, take}
use Rattle.kt_os.proofs.Common.{SameDir, SameEnv, command_args, command_program, utf8}
use Rattle.kt_os.proofs.host.command.push_args.Given as goal

abbrev pub invariant-loop-word : goal.invariant-loop-word
invariant-loop-word l =
    (command_args l.command ≡ command_args l.initial.command ++ map utf8 (take l.word-index l.word-items))
    × (command_program l.command ≡ command_program l.initial.command) × SameEnv l.initial.command l.command × SameDir l.initial.command l.command
