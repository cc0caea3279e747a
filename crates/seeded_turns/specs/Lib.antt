pub mod DrawnEvents
