pub mod Hosts
pub mod HostDemand
pub mod ForC
pub mod WordsBehind
