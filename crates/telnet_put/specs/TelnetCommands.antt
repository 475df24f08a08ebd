-- The request that a command is.
use Rattle.tsd_base.specs.Points.{point_of}
use Rattle.telnet_put.specs.declared.telnet_command.Command.{Command}
use Rattle.telnet_put.specs.declared.telnet_command.Command.TheVariants as command
use Rattle.telnet_put.specs.Requests.{Request}
use Rattle.telnet_put.specs.Requests.Request.{Put, Version, Help, Stats, DropCaches, Exit, Die, TooLong, Other}

abbrev pub request_of : Command → Request
request_of (command.Put text) = Put (point_of text.now)
request_of command.Version = Version
request_of command.Help = Help
request_of command.Stats = Stats
request_of command.DropCaches = DropCaches
request_of command.Exit = Exit
request_of command.Die = Die
request_of command.TooLong = TooLong
request_of command.Other = Other
