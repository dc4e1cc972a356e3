-- Steps. The histories of all applications, and one's part of them, the oldest event first: they are held as the queues are.
pub use Rattle.tk_dispatch.specs.Queue.{Held, own_of, LeavesOthers, LeavesAll}
