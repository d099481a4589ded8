pub mod VelocityOctets
