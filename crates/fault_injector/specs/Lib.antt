pub mod DrawnFaults
