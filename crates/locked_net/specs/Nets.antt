-- A locked network in contracts.
use Rattle.std.specs.Prelude.{◌≡◌, ℕ, Option}
use Rattle.rule_machine.specs.declared.base.Base.{Base}
use Rattle.rule_machine.specs.RuleTable.{RuleTable}
use Rattle.logbook.specs.Pages.{Book}
use Rattle.snapshots.specs.Views.{BoardName, ReaderView}
use Rattle.step_log.specs.RetainedLogs.{RetainedLog}
use Rattle.keyed_lock.specs.Locks.{key_of}
use Rattle.locked_net.specs.Settings.{Setting, IsLogIn}
use Rattle.locked_net.specs.PublishedJournals.{name_from}
use Rattle.locked_net.specs.Receipts.{base_number}
use Rattle.locked_net.specs.declared.net_key.NetKey.{NetKey}
use Rattle.locked_net.specs.declared.net.LockedNet.{LockedNet}

module _ {R : Type 0} where
  abbrev pub net_key_of : LockedNet R → NetKey
  net_key_of net = key_of net.lock

  -- how many names the network has
  abbrev pub name_count_of : LockedNet R → ℕ
  name_count_of net = (net_key_of net).nodes

  -- how many nodes the network had at its beginning; at the opening state they are named from 1
  abbrev pub first_nodes_of : LockedNet R → ℕ
  first_nodes_of net = (net_key_of net).present

  -- the base at which the network began; none for the opening state
  abbrev pub beginning_of : LockedNet R → Option Base
  beginning_of net = (net_key_of net).beginning

  -- the number of this base, after which entries are numbered; none for the opening state
  abbrev pub start_number_of : LockedNet R → Option ℕ
  start_number_of net = base_number (beginning_of net)

  -- the greatest number that an entry of the network's log may have
  abbrev pub log_limit_of : LockedNet R → ℕ
  log_limit_of net = (net_key_of net).limit

  -- the rules, the numbers of names and of nodes at the start, the beginning, and the limit of numbers
  abbrev pub setting_of : RuleTable → LockedNet R → Setting
  setting_of t net = record { table = t; nodes = name_count_of net; present = first_nodes_of net; base = beginning_of net; limit = log_limit_of net }

  -- the history that the network's readers see
  abbrev pub book_of : LockedNet R → Book
  book_of net = (net_key_of net).opening.book

  -- that history, the number of places of its copies (one for each name, and the unused place 0), the number
  -- of nodes at the start, and the beginning
  abbrev pub name_of : LockedNet R → BoardName
  name_of net = name_from (net_key_of net)

  -- The reader has seen, and learnt, exactly the log that was under the net's lock at one moment. This log
  -- is a run of the rules from the net's beginning with the net's names and nodes, within the net's limit.
  abbrev pub HasSeenLog : RuleTable → LockedNet R → ReaderView → Type 0
  HasSeenLog t net reader = (log : RetainedLog) × IsLogIn (setting_of t net) log × (reader.list ≡ log.entries) × (reader.learnt ≡ log.entries)
