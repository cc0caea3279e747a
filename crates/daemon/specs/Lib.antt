pub mod DaemonLaws
pub mod DrawnChoices
pub mod RecordedLists
