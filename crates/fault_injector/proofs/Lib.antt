pub mod FullNetworks
