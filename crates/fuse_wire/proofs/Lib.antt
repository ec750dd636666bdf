mod Nodes
mod Zeros
